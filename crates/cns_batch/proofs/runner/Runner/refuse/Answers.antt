use Rattle.std.proofs.Common.{refl}
use Rattle.cns_report.specs.Outcomes.{outcome_line}
use Rattle.cns_system.specs.declared.outcome.Outcome.TheVariants as outcomes
use Rattle.cns_batch.proofs.ActLemmas.{prints_runs}
use Rattle.cns_batch.proofs.runner.Runner.refuse.Goals as goal

pub returns : goal.returns
returns g c = prints_runs _ (outcome_line c.args.event.now (outcomes.Refused c.args.refusal)) c.outcome.result _ _ c.outcome.ensures.0 refl

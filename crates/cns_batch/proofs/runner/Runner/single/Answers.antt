use Rattle.cns_batch.proofs.ActLemmas.{single_runs}
use Rattle.cns_batch.proofs.runner.Runner.single.Goals as goal

pub returns : goal.returns
returns g c = single_runs _ c.args.event c.step-outcome.result c.outcome-told.result _ _ c.step-outcome.ensures c.outcome-told.ensures.0

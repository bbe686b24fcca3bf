use Rattle.std.proofs.Common.{refl, true, false}
use Rattle.cns_batch.specs.Runs.{Planned}
use Rattle.cns_batch.proofs.ActLemmas.{asks, runs_after}
use Rattle.cns_batch.proofs.runner.Runner.fail.Goals as goal

pub returns-then-plan : goal.returns-then-plan
returns-then-plan g c =
    runs_after c.tell.result _ (asks (Planned c.args.node c.args.stands true) (true, refl, refl) refl (rw c.if-plan.true at c.plan.ensures)) c.tell.ensures

pub returns : goal.returns
returns g c =
    runs_after c.tell-2.result _ (asks (Planned c.args.node c.args.stands false) (false, refl, refl) refl (rw c.if-plan.false at c.plan.ensures)) c.tell-2.ensures

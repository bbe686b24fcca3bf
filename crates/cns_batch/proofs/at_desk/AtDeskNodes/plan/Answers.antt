use Rattle.cns_system.specs.Scene.{scene_of}
use Rattle.cns_batch.proofs.DeskLemmas.{planned_at}
use Rattle.cns_batch.proofs.at_desk.AtDeskNodes.plan.Goals as goal

pub returns : goal.returns
returns g c =
    rw c.is_ok.ensures.value
    (planned_at c.args.node c.args.stands c.plan.result c.deref_mut.result.now (scene_of c.plan.new.self.system) (rw c.deref_mut.ensures.value c.lock.ensures) c.plan.ensures.scene)

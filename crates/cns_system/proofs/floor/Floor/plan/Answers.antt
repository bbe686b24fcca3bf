use Rattle.cns_system.proofs.FloorLemmas.{plan_kept}
use Rattle.cns_system.proofs.floor.Floor.plan.Goals as goal

pub invariant_of-self : goal.invariant_of-self
invariant_of-self g c =
    plan_kept c.args.node c.args.stands c.plan-planned.result c.self.inside.system c.plan-planned.new.self c.self.inside.busy.items c.plan-planned.ensures.plan c.self.invariant

use Rattle.std.proofs.Common.{subst}
use Rattle.cns_system.specs.Headline.{AreStrict}
use Rattle.cns_system.specs.Scene.{Plans, scene_of}
use Rattle.cns_system.proofs.HeadlineLemmas.{agreed}
use Rattle.cns_system.proofs.PlannedLemmas.{plan_leaves, planned_accord, planned_strict}
use Rattle.cns_system.proofs.system.System.plan.Goals as goal

pub invariant_of-self : goal.invariant_of-self
invariant_of-self g c =
    planned_accord c.args.node c.args.stands c.plan-planned.result c.self.inside.pair c.plan-planned.new.self c.plan-planned.ensures c.self.invariant

pub returns-clause-accord : goal.returns-clause-accord
returns-clause-accord g c =
    planned_accord c.args.node c.args.stands c.plan-planned.result c.self.inside.pair c.plan-planned.new.self c.plan-planned.ensures c.self.invariant

pub returns-clause-headline : goal.returns-clause-headline
returns-clause-headline g c = agreed c.plan-planned.new.self c.lawful.ensures.lawful c.lawful.ensures.balanced c.lawful.ensures.frames
    (planned_accord c.args.node c.args.stands c.plan-planned.result c.self.inside.pair c.plan-planned.new.self c.plan-planned.ensures c.self.invariant)

pub returns-clause-strict : goal.returns-clause-strict
returns-clause-strict g c =
    subst (λ w. AreStrict w → AreStrict c.plan-planned.new.self) c.self.view_is
    (planned_strict c.args.node c.args.stands c.plan-planned.result c.self.inside.pair c.plan-planned.new.self c.plan-planned.ensures)

pub returns-clause-scene : goal.returns-clause-scene
returns-clause-scene g c =
    subst (λ w. Plans c.args.node c.args.stands c.plan-planned.result (scene_of w) (scene_of c.plan-planned.new.self)) c.self.view_is
    (plan_leaves c.args.node c.args.stands c.plan-planned.result c.self.inside.pair c.plan-planned.new.self c.plan-planned.ensures)

use Rattle.std.proofs.Common.{refl, subst, sym}
use Rattle.cns_system.specs.Floor.{SparesBusy}
use Rattle.cns_system.proofs.FloorLemmas.{step_kept}
use Rattle.cns_system.proofs.floor.Floor.by_system.Goals as goal

pub invariant_of-self : goal.invariant_of-self
invariant_of-self g c =
    step_kept c.args.event c.step.result c.self.inside.system c.step.new.self (record { system = c.self.inside.system; busy = c.self.inside.busy.items }) refl c.agreed.ensures.tied c.step.ensures.comes c.self.invariant
    (subst (SparesBusy c.args.event) (sym c.self.view_is) c.requires)

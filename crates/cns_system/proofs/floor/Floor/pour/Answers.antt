use Rattle.std.proofs.Common.{refl, subst, sym}
use Rattle.cns_system.specs.Floor.{AreBusy}
use Rattle.cns_system.specs.declared.outcome.Outcome.TheVariants as outcomes
use Rattle.cns_system.proofs.FloorLemmas.{AreBacked, not_poured, pour_fits, pour_kept}
use Rattle.cns_system.proofs.floor.Floor.pour.Goals as goal

pub pour_into-requires-clause-fits : goal.pour_into-requires-clause-fits
pour_into-requires-clause-fits g c =
    let backed : AreBacked c.self.inside.system = record { lawful = c.agreed.ensures.lawful.0; fits = c.agreed.ensures.fits; lots = c.agreed.ensures.lots } in
    pour_fits c.args.lot c.in-Poured.shares (outcomes.Poured c.in-Poured.shares) c.self.inside.system c.step.new.self c.self.inside.busy.items backed c.agreed.ensures.tied c.in-Poured.ensures.comes refl c.self.invariant

pub invariant_of-self : goal.invariant_of-self
invariant_of-self g c =
    let backed : AreBacked c.self.inside.system = record { lawful = c.agreed.ensures.lawful.0; fits = c.agreed.ensures.fits; lots = c.agreed.ensures.lots } in
    subst (AreBusy c.step.new.self.clear) (sym c.pour_into.ensures)
    (pour_kept c.args.lot (outcomes.Poured c.in-Poured.shares) c.self.inside.system c.step.new.self c.self.inside.busy.items backed c.agreed.ensures.tied c.in-Poured.ensures.comes c.self.invariant)

pub invariant_of-self-in_default : goal.invariant_of-self-in_default
invariant_of-self-in_default g c =
    let backed : AreBacked c.self.inside.system = record { lawful = c.agreed.ensures.lawful.0; fits = c.agreed.ensures.fits; lots = c.agreed.ensures.lots } in
    subst (AreBusy c.step.new.self.clear) (not_poured c.step.result c.args.lot c.self.inside.busy.items c.in_default.not-Poured)
    (pour_kept c.args.lot c.step.result c.self.inside.system c.step.new.self c.self.inside.busy.items backed c.agreed.ensures.tied c.step.ensures.comes c.self.invariant)

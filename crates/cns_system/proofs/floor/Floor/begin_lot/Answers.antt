use Rattle.std.proofs.Common.{List, [], ◌∷◌, ◌++◌, ◌∙◌, ap, subst, sym}
use Rattle.cns_system.specs.Floor.{AreBusy}
use Rattle.cns_allocate.specs.declared.planned.Planned.{Planned}
use Rattle.cns_system.specs.Begin.{IsNewCell, new_busy}
use Rattle.cns_system.proofs.BeginLemmas.{begun_busy, newest, open_kept}
use Rattle.cns_system.proofs.FloorLemmas.{AreBacked}
use Rattle.cns_system.proofs.floor.Floor.begin_lot.Goals as goal

pub hand_out-requires-clause-poured : goal.hand_out-requires-clause-poured
hand_out-requires-clause-poured g c =
    let backed : AreBacked c.self.inside.system = record { lawful = c.agreed.ensures.lawful.0; fits = c.agreed.ensures.fits; lots = c.agreed.ensures.lots } in
    (newest c.args.issue c.in-Ok-open_lot.opened c.self.inside.system c.open_lot.new.system backed c.in-Ok-open_lot.ensures.ok.comes).few

pub invariant_of-self-in-Ok-open_lot : goal.invariant_of-self-in-Ok-open_lot
invariant_of-self-in-Ok-open_lot g c =
    let backed : AreBacked c.self.inside.system = record { lawful = c.agreed.ensures.lawful.0; fits = c.agreed.ensures.fits; lots = c.agreed.ensures.lots } in
    subst (AreBusy c.open_lot.new.system.clear) (sym (c.hand_out.ensures.busy ∙ ap (λ bs. bs ++ new_busy c.hand_out.result ∷ []) c.prepare.ensures.same))
    (begun_busy c.args.issue c.in-Ok-open_lot.opened c.hand_out.result c.self.inside.system c.open_lot.new.system c.self.inside.busy.items backed c.agreed.ensures.tied c.in-Ok-open_lot.ensures.ok.comes c.self.invariant
    c.hand_out.ensures.lot c.hand_out.ensures.poured)

pub hand_out-requires-clause-cell : goal.hand_out-requires-clause-cell
hand_out-requires-clause-cell g c =
    let backed : AreBacked c.self.inside.system = record { lawful = c.agreed.ensures.lawful.0; fits = c.agreed.ensures.fits; lots = c.agreed.ensures.lots } in
    let opened = newest c.args.issue c.in-Ok-open_lot.opened c.self.inside.system c.open_lot.new.system backed c.in-Ok-open_lot.ensures.ok.comes in
    subst (λ (plan : List Planned). IsNewCell plan c.in-Ok.cell) (sym opened.plan) c.in-Ok.ensures.cell

pub invariant_of-self-in-Err-open_lot : goal.invariant_of-self-in-Err-open_lot
invariant_of-self-in-Err-open_lot g c =
    open_kept c.args.issue c.in-Err.outcome c.self.inside.system c.open_lot.new.system c.self.inside.busy.items c.prepare.new.busy.items c.prepare.ensures.same c.agreed.ensures.tied
    c.in-Err.ensures.err.0.comes c.self.invariant

use Rattle.std.proofs.Common.{◌∙◌, ap}
use Rattle.cns_clearing.specs.Lots.{refilled}
use Rattle.cns_clearing.specs.OpenLots.{filled}
use Rattle.cns_clearing.proofs.OpenLotLemmas.{filled_map, refilled_at, refilled_none, slots_refilled}
use Rattle.cns_clearing.proofs.lot.Lots.refill.Goals as goal

pub invariant_of-self : goal.invariant_of-self
invariant_of-self c =
    let changed = refilled_at c.self.inside.slots.items c.args.issue _ c.args.upto c.args.poured c.in-Some.place _ _ c.self.invariant.placed c.in-Some.ensures c.index_mut.ensures.value c.pour.ensures in
    rw changed (slots_refilled _ c.args.issue _ c.args.upto c.args.poured c.self.invariant)

pub returns-in-Some : goal.returns-in-Some
returns-in-Some c =
    let changed = refilled_at c.self.inside.slots.items c.args.issue _ c.args.upto c.args.poured c.in-Some.place _ _ c.self.invariant.placed c.in-Some.ensures c.index_mut.ensures.value c.pour.ensures in
    rw (← c.self.view_is) (ap filled changed ∙ filled_map (refilled c.args.issue c.args.upto c.args.poured) c.self.inside.slots.items)

pub returns-in_default : goal.returns-in_default
returns-in_default c = rw (← c.self.view_is) (refilled_none c.self.inside.slots.items c.args.issue _ c.args.upto c.args.poured c.self.invariant.placed c.in_default.ensures)

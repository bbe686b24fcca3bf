use Rattle.std.proofs.Common.{◌∙◌, sym, ap}
use Rattle.std.proofs.lemmas.Bool.{true≢false}
use Rattle.cns_clearing.specs.OpenLots.{filled}
use Rattle.cns_clearing.proofs.OpenLotLemmas.{closed_at, closed_none, none_open, places_closed, some_left}
use Rattle.cns_clearing.proofs.lot.Lots.close.Goals as goal

pub invariant_of-self-else-is_empty : goal.invariant_of-self-else-is_empty
invariant_of-self-else-is_empty c =
    let are = places_closed c.self.inside.slots.items c.args.issue _ c.self.invariant.placed c.in-Some.place _ c.in-Some.ensures.place c.take_out.ensures.left in
    some_left _ c.take_out.new.places are (λ none. true≢false (sym (c.is_empty.ensures.1 none) ∙ c.if-is_empty.false))

pub returns-then-is_empty : goal.returns-then-is_empty
returns-then-is_empty c =
    let slots = c.self.inside.slots.items in
    let are = places_closed slots c.args.issue _ c.self.invariant.placed c.in-Some.place _ c.in-Some.ensures.place c.take_out.ensures.left in
    let none = none_open _ c.take_out.new.places are (c.is_empty.ensures.0 c.if-is_empty.true) in
    rw (← c.self.view_is) (ap filled c.clear.ensures.items ∙ sym none ∙ closed_at slots c.args.issue _ c.self.invariant.placed c.in-Some.place c.in-Some.ensures.place)

pub returns-else-is_empty : goal.returns-else-is_empty
returns-else-is_empty c = rw (← c.self.view_is) (closed_at c.self.inside.slots.items c.args.issue _ c.self.invariant.placed c.in-Some.place c.in-Some.ensures.place)

pub returns-in_default : goal.returns-in_default
returns-in_default c = rw (← c.self.view_is) (closed_none c.self.inside.slots.items c.args.issue _ c.self.invariant.placed c.in_default.ensures.place)

use Rattle.std.proofs.Common.{◌≡◌, ◌∙◌, ap, length, rules}
use Rattle.cns_clearing.specs.OpenLots.{filled}
use Rattle.cns_clearing.proofs.OpenLotLemmas.{filled_push, slots_opened}
use Rattle.cns_clearing.proofs.lot.Lots.open.Goals as goal

pub invariant_of-self : goal.invariant_of-self
invariant_of-self c =
    let none = rw (← c.self.view_is) at c.requires.first in
    let last : c.len.result ≡ length c.self.inside.slots.items = search rules in
    rw c.push_reserved.ensures.items (slots_opened _ c.args.lot c.len.result _ _ c.self.invariant.placed none last c.put.ensures)

pub returns : goal.returns
returns c = rw (← c.self.view_is) (ap filled c.push_reserved.ensures.items ∙ filled_push c.self.inside.slots.items c.args.lot)

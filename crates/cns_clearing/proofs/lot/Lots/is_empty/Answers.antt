use Rattle.std.proofs.Common.{◌≡◌, length, rules}
use Rattle.cns_clearing.proofs.OpenLotLemmas.{none_by_length}
use Rattle.cns_clearing.proofs.lot.Lots.is_empty.Goals as goal

pub returns : goal.returns
returns c =
    let len : c.self.inside.slots.len ≡ length c.self.inside.slots.items = search rules in
    rw (← c.self.view_is, c.is_empty.ensures, len) (none_by_length _ _ c.self.invariant)

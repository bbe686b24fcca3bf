use Rattle.std.proofs.Common.{refl}
use Rattle.cns_clearing.proofs.OpenLotLemmas.{slots_kept}
use Rattle.cns_clearing.proofs.lot.Lots.room.Goals as goal

pub invariant_of-self : goal.invariant_of-self
invariant_of-self c = slots_kept _ _ _ _ c.self.invariant (λ i. refl) c.reserve.ensures.items

pub invariant_of-self-2 : goal.invariant_of-self-2
invariant_of-self-2 c = slots_kept _ _ _ _ c.self.invariant (λ i. c.reserve-2.ensures.entries.2 i) c.reserve.ensures.items

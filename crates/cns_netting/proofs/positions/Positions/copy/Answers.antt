use Rattle.cns_netting.proofs.PlaceLemmas.{places_none}
use Rattle.cns_netting.proofs.positions.Positions.copy.Goals as goal

pub invariant_of-result : goal.invariant_of-result
invariant_of-result c = rw (c.in_ok-all.ensures, c.new.ensures.items) (record { members = c.self.invariant.members; places = places_none c.self.inside.all.entries })

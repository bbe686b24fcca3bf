use Rattle.cns_netting.proofs.PlaceLemmas.{listed_none}
use Rattle.cns_netting.proofs.positions.Positions.new.Goals as goal

pub invariant_of-result : goal.invariant_of-result
invariant_of-result c = rw (c.new.ensures.empty, c.new-2.ensures.items) listed_none

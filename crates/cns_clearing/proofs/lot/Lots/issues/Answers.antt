use Rattle.cns_clearing.proofs.OpenLotLemmas.{filled_issues}
use Rattle.cns_clearing.proofs.lot.Lots.issues.Goals as goal

pub returns : goal.returns
returns c = rw (← c.self.view_is, ← filled_issues c.self.inside.slots.items, ← c.as_slice.ensures.value) c.in_ok-issues.ensures

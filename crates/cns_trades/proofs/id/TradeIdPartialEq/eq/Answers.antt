use Rattle.cns_trades.proofs.IdLemmas.{same_stored}
use Rattle.cns_trades.proofs.id.TradeIdPartialEq.eq.Goals as goal

pub returns : goal.returns
returns c = let same = same_stored c.self.inside.bytes c.other.inside.bytes c.self.invariant c.other.invariant in cc

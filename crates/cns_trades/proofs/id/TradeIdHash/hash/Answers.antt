use Rattle.cns_trades.proofs.id.TradeIdHash.hash.Goals as goal

pub returns : goal.returns
returns g c = let held = c.self.invariant.rest in cc

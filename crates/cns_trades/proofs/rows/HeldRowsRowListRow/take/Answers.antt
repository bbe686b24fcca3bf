use Rattle.cns_trades.proofs.FaultLemmas.{trade_fault-small}
use Rattle.cns_trades.proofs.rows.HeldRowsRowListRow.take.Goals as goal

pub add-requires : goal.add-requires
add-requires c = rw c.trade_of.ensures (trade_fault-small _)

-- Both nodes and the link as events change them: what contracts see of them, with packets as what they spell, and without what is said of the keepers.
use Rattle.std.specs.Prelude.{List, map, Option}
use Rattle.cns_journal.specs.RecordLog.{LogShown, log_shown, with_added, with_undecided}
use Rattle.cns_trades.specs.declared.opening.Opening.{Opening}
use Rattle.cns_movements.specs.declared.order.Order.{Order}
use Rattle.cns_movements.specs.declared.order.Reply.{Reply}
use Rattle.cns_records.specs.declared.clear_record.ClearRecord.{ClearRecord}
use Rattle.cns_records.specs.declared.dep_record.DepRecord.{DepRecord}
use Rattle.cns_clearing.specs.Lots.{lots_after}
use Rattle.cns_clearing.specs.declared.lot.Lot.{Lot}
use Rattle.cns_system.specs.Lot.{LotState}
use Rattle.cns_system.specs.World.{World, order_spelt, reply_spelt}

-- the clearing node's log, its open lots by issue, and all lots in the order of their numbers; the depository's openings, and its log; and the packets
-- that were put on the link of orders and on that of replies, the oldest first, each as what it spells (`None` for a packet that is no frame of an order on
-- the one link, of a reply on the other: no event puts such a one there). A packet is never taken off the link: it may arrive never, once or often, and in any order
pub record Shown : Type 0 where
  pub clear : LogShown ClearRecord
  pub open_lots : List Lot
  pub lots : List LotState
  pub openings : List Opening
  pub depot : LogShown DepRecord
  pub order_packets : List (Option Order)
  pub reply_packets : List (Option Reply)

abbrev pub shown_of : World → Shown
shown_of w = record {
  clear = log_shown w.clear.clear.log;
  open_lots = w.clear.clear.lots;
  lots = w.clear.lots;
  openings = w.depot.openings;
  depot = log_shown w.depot.log;
  order_packets = map order_spelt w.order_packets;
  reply_packets = map reply_spelt w.reply_packets;
}

-- a record of the clearing node is added, with what becomes of the open lots by it, or it is undecided and the node is down
abbrev pub clear_added : ClearRecord → Shown → Shown
clear_added r w = record w { clear = with_added r w.clear; open_lots = lots_after r w.open_lots }

abbrev pub clear_failed : ClearRecord → Shown → Shown
clear_failed r w = record w { clear = with_undecided r w.clear }

-- a record of the depository likewise
abbrev pub depot_added : DepRecord → Shown → Shown
depot_added e w = record w { depot = with_added e w.depot }

abbrev pub depot_failed : DepRecord → Shown → Shown
depot_failed e w = record w { depot = with_undecided e w.depot }

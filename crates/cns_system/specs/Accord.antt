-- What is so of both nodes and the link after any events, where both keepers are honest.
use Rattle.std.specs.Prelude.{◌≡◌, ◌≢◌, ◌≤◌, ℕ, true, false, List, All, Option, Some, None, IfSome}
use Rattle.cns_movements.specs.Order.{order_of}
use Rattle.cns_movements.specs.declared.order.Order.{Order}
use Rattle.cns_movements.specs.declared.order.Reply.{Reply}
use Rattle.cns_wire.specs.Frame.{order_frame, reply_frame}
use Rattle.cns_records.specs.declared.clear_record.ClearRecord.{ClearRecord}
use Rattle.cns_records.specs.declared.clear_record.ClearRecord.TheVariants as entry
use Rattle.cns_records.specs.declared.dep_record.DepRecord.{DepRecord}
use Rattle.cns_clearing.specs.Books.{IsLawful, order_book_of}
use Rattle.cns_depository.specs.declared.movement.Movement.{Movement}
use Rattle.cns_depository.specs.Stock.{IsLawfulDepot, executed_in, executed_of, movement_of}
use Rattle.cns_system.specs.Agreement.{IsExecuted, IsOrdered}
use Rattle.cns_system.specs.Shown.{Shown, shown_of}
use Rattle.cns_system.specs.World.{World, order_in_packet, reply_in_packet}
use Rattle.cns_system.specs.declared.event.Event.{Event}
use Rattle.cns_system.specs.declared.event.Event.TheVariants as event
use Rattle.cns_system.specs.declared.outcome.Outcome.{Outcome}
use Rattle.cns_system.specs.declared.outcome.Outcome.TheVariants as outcomes
use Rattle.cns_records.specs.declared.refusal.Refusal.TheVariants as refusal

-- an executed movement is that of the order of its number: they agree, so its member, issue, kind and quantity asked for are the same in
-- both nodes, and its cycle, where both have one; a delivery moved all of that quantity, and a cover no more than it
abbrev pub IsAsOrdered : List Order → Movement → Type 0
IsAsOrdered orders m = IsOrdered orders m × (m.moved ≤ m.order.asked)

-- a record of the clearing node fits what was executed: a confirmation is of a movement that was executed, and moved so much
abbrev pub FitsStock : List Movement → ClearRecord → Type 0
FitsStock movements (entry.Confirm r) = IsExecuted movements r
FitsStock movements _ = Unit {0}

-- a record of the depository fits what was ordered: where it executes a movement, that is known, and no other was executed under its number
abbrev pub FitsOrders : List Order → List Movement → DepRecord → Type 0
FitsOrders orders movements e = IfSome (executed_in e) (λ (m : Movement). IsAsOrdered orders m × (movement_of movements m.order.number ≡ None))

-- a packet of an order is the frame of an order that is found under its number, and reads as it
pub record IsOrderPacket (orders : List Order) (bytes : List ℕ) : Type 0 where
  pub order : Order
  pub found : order_of orders order.number ≡ Some order
  pub frame : bytes ≡ order_frame order
  pub reads : order_in_packet (Some bytes) ≡ Some order

-- a packet of a reply is the frame of a reply that tells of an executed movement, and reads as it
pub record IsReplyPacket (movements : List Movement) (bytes : List ℕ) : Type 0 where
  pub reply : Reply
  pub done : IsExecuted movements reply
  pub frame : bytes ≡ reply_frame reply
  pub reads : reply_in_packet (Some bytes) ≡ Some reply

-- a packet that spells an order spells that of its number; and one that spells a reply tells of an executed movement
abbrev pub SpellsOrder : List Order → Option Order → Type 0
SpellsOrder orders packet = IfSome packet (λ (o : Order). order_of orders o.number ≡ Some o)

abbrev pub SpellsReply : List Movement → Option Reply → Type 0
SpellsReply movements packet = IfSome packet (IsExecuted movements)

-- the two nodes' records agree, each packet spells the order of its number or the reply to a movement that was executed, and so it stays where a
-- record whose commit failed comes back; a node that is up has no such record
pub record Accord (w : Shown) : Type 0 where
  pub executed : All (IsAsOrdered (order_book_of w.clear.records).orders) (executed_of w.depot.records)
  pub confirmed : All (IsExecuted (executed_of w.depot.records)) (order_book_of w.clear.records).replies
  pub sent : All (SpellsOrder (order_book_of w.clear.records).orders) w.order_packets
  pub answered : All (SpellsReply (executed_of w.depot.records)) w.reply_packets
  pub clear_tried : (u : ClearRecord) → w.clear.tried ≡ Some u → FitsStock (executed_of w.depot.records) u
  pub depot_tried : (e : DepRecord) → w.depot.tried ≡ Some e → FitsOrders (order_book_of w.clear.records).orders (executed_of w.depot.records) e
  pub clear_up : w.clear.down ≡ false → w.clear.tried ≡ None
  pub depot_up : w.depot.down ≡ false → w.depot.tried ≡ None

abbrev pub IsInAccord : World → Type 0
IsInAccord w = w.clear.clear.log.honest ≡ true → w.depot.log.honest ≡ true → Accord (shown_of w)

-- each record of each node may stand after those before it
abbrev pub AreLawful : World → Type 0
AreLawful w = IsLawful w.clear.clear.log.records × IsLawfulDepot w.depot.openings w.depot.log.records

-- what no event comes to where both keepers are honest: no order meets another one under its number, no reply is of a movement that
-- is unknown, moved another quantity or more than was asked for, and no journal is bad
abbrev pub IsSound : Event → Outcome → Type 0
IsSound (event.OrderIn packet) outcome = outcome ≢ outcomes.Refused refusal.Conflict
IsSound (event.ReplyIn packet) outcome =
    (outcome ≢ outcomes.Refused refusal.UnknownMove) × (outcome ≢ outcomes.Refused refusal.Conflict) × (outcome ≢ outcomes.Refused refusal.TooMuch)
IsSound (event.Restart name) outcome = (place : ℕ) → outcome ≢ outcomes.Refused (refusal.BadJournal place)
IsSound _ outcome = Unit {0}

-- so it is where both keepers were honest
abbrev pub StaysSound : World → Event → Outcome → Type 0
StaysSound w e outcome = w.clear.clear.log.honest ≡ true → w.depot.log.honest ≡ true → IsSound e outcome

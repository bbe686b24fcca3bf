-- What each call of a clearing node comes to, by whether the node is down, its records and its open lots, and what it leaves (this project's own
-- rules). The first refusal that applies is told.
use Rattle.std.specs.Bool.{Decides}
use Rattle.std.specs.Prelude.{◌≡◌, ℕ, ◌+◌, ◌^◌, ◌≤◌, ◌==◌, min, not, Bool, true, false, List, length, map, Some, Result, Ok, Err}
use Rattle.std.specs.Option.{is_none, ok_or}
use Rattle.cns_ids.specs.Steps.{◌>>=◌, ◌>>◌, need}
use Rattle.cns_ids.specs.declared.cycle.CycleId.{CycleId}
use Rattle.cns_trades.specs.Verdicts.{verdict}
use Rattle.cns_trades.specs.declared.list.Verdict.{Verdict}
use Rattle.cns_trades.specs.declared.list.Verdict.TheVariants as verdicts
use Rattle.cns_trades.specs.declared.trade.Trade.{Trade}
use Rattle.cns_netting.specs.History.{accepted, becoming_due}
use Rattle.cns_movements.specs.Book.{next_orders}
use Rattle.cns_movements.specs.Confirm.{confirm_answer}
use Rattle.cns_movements.specs.Order.{order_of}
use Rattle.cns_movements.specs.declared.book.Confirm.{Confirm}
use Rattle.cns_movements.specs.declared.book.Confirm.TheVariants as answers
use Rattle.cns_movements.specs.declared.order.Ask.{Ask}
use Rattle.cns_movements.specs.declared.order.Order.{Order}
use Rattle.cns_movements.specs.declared.order.Reply.{Reply}
use Rattle.cns_pool.specs.Pool.{asked_sum}
use Rattle.cns_pool.specs.declared.ticket.Ticket.{Ticket}
use Rattle.cns_allocate.specs.Served.{IsServed}
use Rattle.cns_allocate.specs.declared.planned.Planned.{Planned}
use Rattle.cns_records.specs.Call.{CallLeaves, Deed, Commits, Tells}
use Rattle.cns_records.specs.Refusals.{commit_refusal}
use Rattle.cns_records.specs.declared.allocation.Allocation.{Allocation}
use Rattle.cns_records.specs.declared.drawn.Drawn.{Drawn}
use Rattle.cns_records.specs.declared.clear_record.ClearRecord.{ClearRecord}
use Rattle.cns_records.specs.declared.clear_record.ClearRecord.TheVariants as entry
use Rattle.cns_clearing.specs.Books.{are_spent, books_of, covers_on, deliveries_in, history_of, is_later, latest_of, order_book_of}
use Rattle.cns_clearing.specs.Lots.{IsAllocation, avail_in, lots_opened, lots_poured, new_lot}
use Rattle.cns_clearing.specs.Node.{ClearNode, IsCommitted}
use Rattle.cns_clearing.specs.Pools.{free_of, lot_of}
use Rattle.cns_clearing.specs.declared.lot.Lot.{Lot}
use Rattle.cns_clearing.specs.declared.answer.Closed.{Closed}
use Rattle.cns_records.specs.declared.refusal.Refusal.{Refusal}
use Rattle.cns_records.specs.declared.refusal.Refusal.TheVariants as refusal
use Rattle.cns_clearing.specs.declared.answer.Cycled.{Cycled}
use Rattle.cns_clearing.specs.declared.answer.Taken.{Taken}
use Rattle.cns_clearing.specs.declared.answer.Taken.TheVariants.{Done, Again}

-- what a call that commits a record leaves of the node, by what it comes to
abbrev pub NodeLeaves : {X : Type 0} → Result (Deed ClearRecord X) Refusal → Result X Refusal → ClearNode → ClearNode → Type 0
NodeLeaves call result old new = CallLeaves commit_refusal IsCommitted call result old new

-- a node that is down refuses
abbrev pub need_up : Bool → Result (Unit {0}) Refusal
need_up down = need (not down) refusal.Down

-- ---- trades and settings

-- the verdict of the accepted trades on a trade
abbrev pub verdict_in : List ClearRecord → Trade → Verdict
verdict_in c t = verdict (accepted (history_of c)) t

-- a trade is accepted where it is new
unfoldable pub trade_call : Trade → Bool → List ClearRecord → Result (Deed ClearRecord (Unit {0})) Refusal
trade_call t down c = need_up down >> elim (verdict_in c t) [ verdicts.New ↦ Ok (Commits (entry.Accept t) tt) | verdict ↦ Err (refusal.Trade verdict) ]

unfoldable pub setting_call : ClearRecord → Bool → Result (Deed ClearRecord (Unit {0})) Refusal
setting_call r down = need_up down >> Ok (Commits r tt)

-- ---- cycles

-- the covers that a cycle of this date orders after these records
abbrev pub covers_in : List ClearRecord → ℕ → List Ask
covers_in c day = covers_on (books_of c) day

-- what is told of a cycle: how many trades it made due, and the orders of its covers, the next ones, which are of this cycle
abbrev pub cycled_of : List ClearRecord → CycleId → Cycled
cycled_of c id = record { due = becoming_due (history_of c) id.day; orders = next_orders (order_book_of c) (Some id) (covers_in c id.day) }

-- a cycle runs where it is later than the latest one, no lot is open, and there are numbers for its covers
unfoldable pub cycle_call : CycleId → Bool → List ClearRecord → List Lot → Result (Deed ClearRecord Cycled) Refusal
cycle_call id down c lots = do
  need_up down
  need (is_later (latest_of c) id) refusal.CycleOrder
  need (length lots == 0) refusal.LotsOpen
  need (not (are_spent (order_book_of c) (length (covers_in c id.day)))) refusal.NumbersSpent
  Ok (Commits (entry.Cycle id) (cycled_of c id))

-- ---- lots

-- a lot is opened where none of the issue is open: it has all shares of the issue that are there, which is to say available (`avail_in`), and its plan, which is told
unfoldable pub open_call : ℕ → Bool → List ClearRecord → List Lot → Result (List Planned × List Lot) Refusal
open_call issue down c lots = need_up down >> need (is_none (lot_of lots issue)) refusal.LotAlready >> Ok ((new_lot c issue).plan, lots_opened c issue lots)

-- what a lot gets that is poured into, and the lots then
unfoldable pub pour_call : ℕ → Bool → List ClearRecord → List Lot → Result (ℕ × List Lot) Refusal
pour_call issue down c lots = do
  need_up down
  need (not (is_none (lot_of lots issue))) refusal.NoLot
  Ok (free_of (order_book_of c) lots issue, lots_poured c issue lots)

-- with these shares and those that it had, the lot of an issue has all that are there, at most 10^18
pub record IsPoured (node : ClearNode) (issue shares : ℕ) : Type 0 where
  pub lot : Lot
  pub found : lot_of node.lots issue ≡ Some lot
  pub all : lot.poured + shares ≡ avail_in node.log.records issue
  pub few : lot.poured + shares ≤ 10 ^ 18

-- a lot's ticket as that of a record
abbrev pub recorded_ticket : Ticket → Drawn
recorded_ticket t = record { member = t.member; start = t.start; asked = t.asked }

-- the allocation that closes a lot with these tickets
abbrev pub closing_allocation : Lot → List Ticket → Bool → Allocation
closing_allocation lot tickets sealed = record { issue = lot.issue; opened = lot.opened; upto = lot.upto; poured = lot.poured; sealed = sealed; drawn = map recorded_ticket tickets }

-- the deliveries that it orders
abbrev pub deliveries_by : Lot → List Ticket → Bool → List Ask
deliveries_by lot tickets sealed = deliveries_in (closing_allocation lot tickets sealed)

-- what is told of a lot that was closed with these tickets: how many shares they were granted in all, and the orders of its deliveries, the next
-- ones, which are of the latest cycle
abbrev pub closed_of : Lot → List Ticket → Bool → List ClearRecord → Closed
closed_of lot tickets sealed c =
    record { granted = min lot.poured (asked_sum tickets); orders = next_orders (order_book_of c) (latest_of c) (deliveries_by lot tickets sealed) }

-- what the record of a close rests on: the tickets serve the plan of the lot of an issue, its allocation is lawful at its place, and there are numbers for its deliveries
pub record MayClose (node : ClearNode) (issue : ℕ) (tickets : List Ticket) (sealed : Bool) (lot : Lot) : Type 0 where
  pub found : lot_of node.lots issue ≡ Some lot
  pub served : IsServed lot.plan tickets sealed
  pub lawful : IsAllocation node.log.records (closing_allocation lot tickets sealed)
  pub numbers : are_spent (order_book_of node.log.records) (length (deliveries_by lot tickets sealed)) ≡ false

-- this lot may close with these tickets where there are numbers for its deliveries
abbrev pub close_deed : List Ticket → Bool → List ClearRecord → Lot → Result (Deed ClearRecord Closed) Refusal
close_deed tickets sealed c lot =
    need (not (are_spent (order_book_of c) (length (deliveries_by lot tickets sealed)))) refusal.NumbersSpent
    >> Ok (Commits (entry.Allocate (closing_allocation lot tickets sealed)) (closed_of lot tickets sealed c))

-- these tickets serve the plan of the lot of the issue, where the node has one
abbrev pub AreServed : List Lot → ℕ → List Ticket → Bool → Type 0
AreServed lots issue tickets sealed = (lot : Lot) → lot_of lots issue ≡ Some lot → IsServed lot.plan tickets sealed

-- `serve` says whether these tickets serve that plan, where the node is up: of one that is down it says nothing
abbrev pub TellsServed : Bool → ClearNode → ℕ → List Ticket → Bool → Type 0
TellsServed serve node issue tickets sealed = node.log.down ≡ false → Decides serve (AreServed node.lots issue tickets sealed)

-- the lot of an issue closes with tickets that are tested first; `serve` says whether they serve its plan
unfoldable pub tested_close_call : Bool → ℕ → List Ticket → Bool → Bool → List ClearRecord → List Lot → Result (Deed ClearRecord Closed) Refusal
tested_close_call serve issue tickets sealed down c lots = do
  need_up down
  lot ← ok_or (lot_of lots issue) refusal.NoLot
  need serve refusal.BadTickets
  close_deed tickets sealed c lot

-- it closes with tickets that are known to serve its plan, so `BadTickets` does not come
abbrev pub close_call : ℕ → List Ticket → Bool → Bool → List ClearRecord → List Lot → Result (Deed ClearRecord Closed) Refusal
close_call issue tickets sealed down c lots = tested_close_call true issue tickets sealed down c lots

-- ---- orders and replies

-- the order of a number
unfoldable pub order_call : ℕ → Bool → List ClearRecord → Result Order Refusal
order_call n down c = need_up down >> ok_or (order_of (order_book_of c).orders n) refusal.UnknownMove

-- what the orders and confirmations say of a reply
abbrev pub answer_in : List ClearRecord → Reply → Confirm
answer_in c r = confirm_answer (order_book_of c) r

-- only the first reply to an order adds a record
unfoldable pub reply_call : Reply → Bool → List ClearRecord → Result (Deed ClearRecord Taken) Refusal
reply_call r down c =
    need_up down
    >> elim (answer_in c r) [
      | answers.Done ↦ Ok (Commits (entry.Confirm r) Done)
      | answers.Again ↦ Ok (Tells Again)
      | answers.UnknownMove ↦ Err refusal.UnknownMove
      | answers.Conflict ↦ Err refusal.Conflict
      | answers.TooMuch ↦ Err refusal.TooMuch
    ]

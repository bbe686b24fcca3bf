-- What the records of a clearing node amount to (this project's own rules). All lists of records stand newest first: what was
-- recorded before a record is the rest of the list.
use Rattle.std.specs.Prelude.{◌≡◌, ℕ, ◌+◌, ◌&&◌, ◌==◌, nat_lt, not, Bool, true, false, All, List, [], ◌∷◌, count_by, length, map, ◌≤◌, Option, Some, None}
use Rattle.std.specs.List.Sorted.{IsNonDecreasingBy}
use Rattle.cns_journal.specs.Replay.{AreAllowed}
use Rattle.cns_ids.specs.Cycle.{is_after}
use Rattle.cns_ids.specs.declared.cycle.CycleId.{CycleId}
use Rattle.cns_trades.specs.Verdicts.{verdict}
use Rattle.cns_trades.specs.declared.list.Verdict.TheVariants as verdicts
use Rattle.cns_netting.specs.Book.{IsBook}
use Rattle.cns_netting.specs.History.{accepted, becoming_due}
use Rattle.cns_netting.specs.declared.entry.NetEntry.{NetEntry}
use Rattle.cns_netting.specs.declared.entry.NetEntry.TheVariants.{Accepted, Netted, Settled}
use Rattle.cns_netting.specs.declared.position.PositionRow.{PositionRow}
use Rattle.cns_netting.specs.Rows.{rows_of}
use Rattle.cns_pool.specs.Pool.{intervals_of}
use Rattle.cns_pool.specs.Tiles.{AreChained}
use Rattle.cns_pool.specs.declared.ticket.Ticket.{Ticket}
use Rattle.cns_movements.specs.Book.{Orders, IsOrderBook, with_asks, with_reply}
use Rattle.cns_movements.specs.Confirm.{confirm_answer}
use Rattle.cns_movements.specs.Order.{order_of}
use Rattle.cns_movements.specs.declared.book.Confirm.TheVariants as answers
use Rattle.cns_movements.specs.declared.order.Ask.{Ask}
use Rattle.cns_movements.specs.declared.order.Order.{Order}
use Rattle.cns_movements.specs.declared.order.Reply.{Reply}
use Rattle.cns_covers.specs.Bounds.{AreBounded, amount_of, want_in}
use Rattle.cns_covers.specs.Covers.{covers_of}
use Rattle.cns_covers.specs.declared.exemptions.Exempted.{Exempted}
use Rattle.cns_covers.specs.declared.priorities.Prioritized.{Prioritized}
use Rattle.cns_allocate.specs.Deliveries.{deliveries_of}
use Rattle.cns_records.specs.Clear.{AreWritable}
use Rattle.cns_records.specs.declared.allocation.Allocation.{Allocation}
use Rattle.cns_records.specs.declared.clear_record.ClearRecord.{ClearRecord}
use Rattle.cns_records.specs.declared.clear_record.ClearRecord.TheVariants.{Accept, Exempt, Priority, Cycle, Allocate, Confirm}
use Rattle.cns_records.specs.declared.drawn.Drawn.{Drawn}
use Rattle.cns_clearing.specs.Pools.{avail_of}
use Rattle.cns_clearing.specs.declared.effects.Effects.{Effects}

-- the history of netting, the orders and their confirmations, the settings, the latest cycle, and the positions directly after
-- that and directly after the cycle before it
pub record Books : Type 0 where
  pub history : List NetEntry
  pub orders : Orders
  pub exemptions : List Exempted
  pub priorities : List Prioritized
  pub latest : Option CycleId
  pub recent : List PositionRow
  pub previous : List PositionRow

-- the covers that a cycle of this date orders: of what is short once all trades that settle on this date or before it are due too, by the orders and
-- confirmations before
abbrev pub covers_on : Books → ℕ → List Ask
covers_on b day = covers_of (Netted day ∷ b.history) b.orders b.exemptions

-- the tickets of a record as those of a lot (whose tickets and shares cns_pool calls a pool; the pool of an issue is another thing)
abbrev pub pool_tickets : List Drawn → List Ticket
pool_tickets drawn = map (λ (d : Drawn). record { member = d.member; start = d.start; asked = d.asked }) drawn

-- the deliveries that an allocation orders: what its tickets are granted of the shares poured
abbrev pub deliveries_in : Allocation → List Ask
deliveries_in a = deliveries_of a.issue a.poured (pool_tickets a.drawn)

-- the history once an order has moved these shares
abbrev pub settled_by : Option Order → ℕ → List NetEntry → List NetEntry
settled_by order moved h = elim order [ None ↦ h | Some o ↦ Settled o.member o.issue (amount_of o.kind moved) ∷ h ]

-- what one more record makes of the books. The orders that it makes are of the latest cycle, which is the record itself where that is one
abbrev pub with_record : ClearRecord → Books → Books
with_record (Accept t) b = record b { history = Accepted t ∷ b.history }
with_record (Exempt m i s) b = record b { exemptions = record { member = m; issue = i; shares = s } ∷ b.exemptions }
with_record (Priority m i is_on) b = record b { priorities = record { member = m; issue = i; on = is_on } ∷ b.priorities }
with_record (Cycle id) b =
    let h = Netted id.day ∷ b.history in
    record b { history = h; orders = with_asks b.orders (Some id) (covers_on b id.day); latest = Some id; recent = rows_of h; previous = b.recent }
with_record (Allocate a) b = record b { orders = with_asks b.orders b.latest (deliveries_in a) }
with_record (Confirm r) b = record b { history = settled_by (order_of b.orders.orders r.number) r.moved b.history; orders = with_reply b.orders r }

-- the books of these records
unfoldable pub books_of : List ClearRecord → Books
books_of [] = record { history = []; orders = record { orders = []; replies = [] }; exemptions = []; priorities = []; latest = None; recent = []; previous = [] }
books_of (r ∷ c) = with_record r (books_of c)

abbrev pub history_of : List ClearRecord → List NetEntry
history_of c = (books_of c).history

abbrev pub order_book_of : List ClearRecord → Orders
order_book_of c = (books_of c).orders

abbrev pub confirmed_of : List ClearRecord → List Reply
confirmed_of c = (books_of c).orders.replies

abbrev pub latest_of : List ClearRecord → Option CycleId
latest_of c = (books_of c).latest

-- whether a cycle is later than the latest one
abbrev pub is_later : Option CycleId → CycleId → Bool
is_later last id = elim last [ None ↦ true | Some other ↦ is_after id other ]

-- whether so many orders are more than the numbers that are left; no orders never are
abbrev pub are_spent : Orders → ℕ → Bool
are_spent book count = not (count == 0) && nat_lt 1000000 (length book.orders + count)

-- an allocation may follow: its lot was opened not after its last pour; its tickets stand end to end from 0, no two are of one member, and each asks for no more
-- than its member is long of, less what that member's open deliveries ask for; the shares poured are available, and there are numbers for its deliveries
pub record IsAllocable (b : Books) (a : Allocation) : Type 0 where
  pub order : a.opened ≤ a.upto
  pub chained : AreChained 0 (intervals_of (pool_tickets a.drawn))
  pub once : (member : ℕ) → count_by (λ (t : Ticket). t.member == member) (pool_tickets a.drawn) ≤ 1
  pub within : All (λ (t : Ticket). t.asked ≤ want_in b.history b.orders t.member a.issue) (pool_tickets a.drawn)
  pub there : a.poured ≤ avail_of b.orders a.issue
  pub numbers : are_spent b.orders (length (deliveries_in a)) ≡ false

-- a record may follow those of the books: a trade is new; a cycle is later than the latest one, and there are numbers for its covers; an allocation is as
-- `IsAllocable` says; a confirmation is the first one of an order, and not above what that asked for; a setting always may
abbrev pub Allows : Books → ClearRecord → Type 0
Allows b (Accept t) = verdict (accepted b.history) t ≡ verdicts.New
Allows b (Cycle id) = (is_later b.latest id ≡ true) × (are_spent b.orders (length (covers_on b id.day)) ≡ false)
Allows b (Allocate a) = IsAllocable b a
Allows b (Confirm r) = confirm_answer b.orders r ≡ answers.Done
Allows b _ = Unit {0}

-- a record may stand after these
abbrev pub IsAllowed : List ClearRecord → ClearRecord → Type 0
IsAllowed c r = Allows (books_of c) r

-- each record could stand after those before it
abbrev pub IsLawful : List ClearRecord → Type 0
IsLawful c = AreAllowed IsAllowed c

-- books are those of records, each of which may stand after those before it and has a payload
pub record AreBooksOf (b : Books) (c : List ClearRecord) : Type 0 where
  pub books_are : b ≡ books_of c
  pub lawful : IsLawful c
  pub fits : AreWritable c

-- the orders that a record makes
abbrev pub asks_of : Books → ClearRecord → List Ask
asks_of b (Cycle id) = covers_on b id.day
asks_of b (Allocate a) = deliveries_in a
asks_of b _ = []

-- the positions directly after a record, where it is a cycle
abbrev pub rows_after : Books → ClearRecord → List PositionRow
rows_after b (Cycle id) = rows_of (Netted id.day ∷ b.history)
rows_after b _ = []

-- the orders and the positions that a record makes
pub record AreEffects (b : Books) (r : ClearRecord) (effects : Effects) : Type 0 where
  pub asks : effects.asks.items ≡ asks_of b r
  pub rows : effects.rows.items ≡ rows_after b r

-- what a record makes besides itself, where it may follow those of the books
abbrev pub AdmittedBy : Books → ClearRecord → Option Effects → Type 0
AdmittedBy b r (Some effects) = Allows b r × AreEffects b r effects
AdmittedBy b r None = Allows b r → ⊥

-- the same of an allocation
abbrev pub AllocatedBy : Books → Allocation → Option Effects → Type 0
AllocatedBy b a effects = AdmittedBy b (Allocate a) effects

-- how many trades a record makes due
abbrev pub due_by : Books → ClearRecord → ℕ
due_by b (Cycle id) = becoming_due b.history id.day
due_by b _ = 0

-- books as those of records that each could stand where it does: their positions are small, and those after the cycle before the
-- latest stand by issue
pub record AreSound (b : Books) : Type 0 where
  pub netted : IsBook b.history
  pub bounded : AreBounded b.history b.orders
  pub ordered : IsOrderBook b.orders
  pub listed : IsNonDecreasingBy (λ (row : PositionRow). row.issue) b.previous

-- the books, and how many more entries of each kind they take with no more memory
pub record BooksRoom : Type 0 where
  pub books : Books
  pub trade_room : ℕ
  pub entry_room : ℕ
  pub order_room : ℕ
  pub reply_room : ℕ
  pub exemption_room : ℕ
  pub priority_room : ℕ

-- What the calls of a clearing node come to, in each case.
use Rattle.std.proofs.Common.{◌≡◌, ◌≢◌, ◌-◌, [], ℕ, Bool, true, false, List, length, map, Some, None, Result, Ok, Err, ap, refl}
use Rattle.std.specs.Prelude.{IsSome, if◌then◌else◌}
use Rattle.std.proofs.lemmas.Bool.{ne_eqb}
use Rattle.std.proofs.lemmas.List.{nil_from_length}
use Rattle.cns_ids.specs.declared.cycle.CycleId.{CycleId}
use Rattle.cns_trades.specs.declared.list.Verdict.{Verdict}
use Rattle.cns_trades.specs.declared.list.Verdict.TheVariants as verdicts
use Rattle.cns_trades.specs.declared.trade.Trade.{Trade}
use Rattle.cns_journal.specs.declared.record_log.CommitFault.{CommitFault}
use Rattle.cns_journal.specs.declared.record_log.CommitFault.TheVariants as commit
use Rattle.cns_movements.specs.declared.book.Confirm.TheVariants as answers
use Rattle.cns_movements.specs.declared.order.Reply.{Reply}
use Rattle.cns_pool.specs.declared.ticket.Ticket.{Ticket}
use Rattle.cns_records.specs.Call.{Changes, Deed, Commits}
use Rattle.cns_records.specs.Clear.{AreWritable}
use Rattle.cns_records.specs.Refusals.{commit_refusal}
use Rattle.cns_records.specs.declared.clear_record.ClearRecord.{ClearRecord}
use Rattle.cns_records.specs.declared.clear_record.ClearRecord.TheVariants as entry
use Rattle.cns_records.specs.declared.refusal.Refusal.{Refusal}
use Rattle.cns_records.specs.declared.refusal.Refusal.TheVariants as refusal
use Rattle.cns_records.proofs.CallLemmas.{changed, committed, refused}
use Rattle.cns_clearing.specs.Answers.{IsPoured, MayClose, NodeLeaves, closing_allocation, answer_in, close_call, closed_of, covers_in, cycle_call, cycled_of, deliveries_by, open_call, pour_call, reply_call, tested_close_call, trade_call, verdict_in}
use Rattle.cns_clearing.specs.Books.{IsLawful, are_spent, is_later, latest_of, order_book_of}
use Rattle.cns_clearing.specs.Lots.{AreLots, avail_in, lots_opened, lots_poured, new_lot, refilled}
use Rattle.cns_clearing.specs.Node.{ClearNode, IsCommitted}
use Rattle.cns_clearing.specs.Pools.{free_of, lot_of}
use Rattle.cns_clearing.specs.declared.lot.Lot.{Lot}
use Rattle.cns_clearing.specs.declared.answer.Taken.TheVariants.{Done, Again}
use Rattle.cns_clearing.proofs.PouredLemmas.{pour_adds, pour_free}

-- ---- the commit of a record

-- the answer of a call that adds a record, by what adding it answered
abbrev pub added : {X : Type 0} → X → Result ℕ CommitFault → Result X Refusal
added x (Ok due) = Ok x
added x (Err fault) = Err (commit_refusal fault)

-- what such a call leaves
pub adds : {X : Type 0} (call : Result (Deed ClearRecord X) Refusal) (r : ClearRecord) (x : X) (answer : Result ℕ CommitFault) (result : Result X Refusal) (old new : ClearNode)
    → call ≡ Ok (Commits r x) → result ≡ added x answer → IsCommitted r answer old new → NodeLeaves call result old new
adds call r x (Ok due) result old new is told left = committed commit_refusal IsCommitted call r x (Ok tt) result old new is told left
adds call r x (Err commit.OutOfMemory) result old new is told left = committed commit_refusal IsCommitted call r x (Err commit.OutOfMemory) result old new is told left
adds call r x (Err commit.Device) result old new is told left = committed commit_refusal IsCommitted call r x (Err commit.Device) result old new is told left

-- and where there is no memory for what it needs besides
pub short_of : {X : Type 0} (call : Result (Deed ClearRecord X) Refusal) (r : ClearRecord) (x : X) (result : Result X Refusal) (old new : ClearNode)
    → call ≡ Ok (Commits r x) → result ≡ Err refusal.OutOfMemory → new ≡ old → NodeLeaves call result old new
short_of call r x result old new is told same = committed commit_refusal IsCommitted call r x (Err commit.OutOfMemory) result old new is told same

-- ---- trades

-- a new trade is accepted
pub trade_new : (t : Trade) (down : Bool) (c : List ClearRecord) → down ≡ false → verdict_in c t ≡ verdicts.New → trade_call t down c ≡ Ok (Commits (entry.Accept t) tt)
unfolding trade_call
trade_new t down c up new = rw (up, new) refl

-- any other is refused with its verdict
pub trade_other : (t : Trade) (v : Verdict) (node : ClearNode) → node.log.down ≡ false → verdict_in node.log.records t ≡ v → v ≢ verdicts.New
    → NodeLeaves (trade_call t node.log.down node.log.records) (Err (refusal.Trade v)) node node
unfolding trade_call
trade_other t verdicts.New node up is other = absurd (other refl)
trade_other t _ node up is other = rw (up, is) (refl, refl)

-- ---- cycles

-- a cycle that is not later than the latest one is refused
pub cycle_early : (id : CycleId) (node : ClearNode) → node.log.down ≡ false → is_later (latest_of node.log.records) id ≡ false
    → NodeLeaves (cycle_call id node.log.down node.log.records node.lots) (Err refusal.CycleOrder) node node
unfolding cycle_call
cycle_early id node up early = rw (up, early) (refl, refl)

-- so is one while a lot is open
pub cycle_beside_lots : (id : CycleId) (node : ClearNode) → node.log.down ≡ false → is_later (latest_of node.log.records) id ≡ true → node.lots ≢ []
    → NodeLeaves (cycle_call id node.log.down node.log.records node.lots) (Err refusal.LotsOpen) node node
unfolding cycle_call
cycle_beside_lots id node up later some = rw (up, later, ne_eqb (length node.lots) 0 (λ none. some (nil_from_length node.lots none))) (refl, refl)

-- and one for whose covers there are no numbers
pub cycle_spent : (id : CycleId) (old new : ClearNode) → old.log.down ≡ false → is_later (latest_of old.log.records) id ≡ true → old.lots ≡ []
    → are_spent (order_book_of old.log.records) (length (covers_in old.log.records id.day)) ≡ true → new ≡ old
    → NodeLeaves (cycle_call id old.log.down old.log.records old.lots) (Err refusal.NumbersSpent) old new
unfolding cycle_call
cycle_spent id old new up later none spent same = refused _ _ _ refusal.NumbersSpent _ _ _ (rw (up, later, none, spent)) refl same

-- any other is run
pub cycle_goes : (id : CycleId) (down : Bool) (c : List ClearRecord) (lots : List Lot) → down ≡ false → is_later (latest_of c) id ≡ true → lots ≡ []
    → are_spent (order_book_of c) (length (covers_in c id.day)) ≡ false → cycle_call id down c lots ≡ Ok (Commits (entry.Cycle id) (cycled_of c id))
unfolding cycle_call
cycle_goes id down c lots up later none room = rw (up, later, none, room) refl

-- so of a cycle whose covers there is no memory to list, by whether there are numbers for so many
pub cycle_short : (id : CycleId) (spent : Bool) (old new : ClearNode) (r : Refusal) → old.log.down ≡ false → is_later (latest_of old.log.records) id ≡ true → old.lots ≡ []
    → are_spent (order_book_of old.log.records) (length (covers_in old.log.records id.day)) ≡ spent → r ≡ (if spent then refusal.NumbersSpent else refusal.OutOfMemory) → new ≡ old
    → NodeLeaves (cycle_call id old.log.down old.log.records old.lots) (Err r) old new
cycle_short id true old new r up later none is told same = rw told (cycle_spent id old new up later none is same)
cycle_short id false old new r up later none is told same = rw told (short_of _ _ _ _ _ _ (cycle_goes id old.log.down old.log.records old.lots up later none is) refl same)

-- ---- lots

-- no second lot of an issue is opened
pub open_again : (issue : ℕ) (down : Bool) (c : List ClearRecord) (lots : List Lot) → down ≡ false → IsSome (lot_of lots issue) → open_call issue down c lots ≡ Err refusal.LotAlready
unfolding open_call
open_again issue down c lots up some = rw (up, some) refl

-- the first one is
pub opens : (issue : ℕ) (down : Bool) (c : List ClearRecord) (lots : List Lot) → down ≡ false → lot_of lots issue ≡ None
    → open_call issue down c lots ≡ Ok ((new_lot c issue).plan, lots_opened c issue lots)
unfolding open_call
opens issue down c lots up none = rw (up, none) refl

-- nothing is poured where no lot of the issue is open
pub pour_none : (issue : ℕ) (down : Bool) (c : List ClearRecord) (lots : List Lot) → down ≡ false → lot_of lots issue ≡ None → pour_call issue down c lots ≡ Err refusal.NoLot
unfolding pour_call
pour_none issue down c lots up none = rw (up, none) refl

-- else what is free
pub pours : (issue : ℕ) (down : Bool) (c : List ClearRecord) (lots : List Lot) (lot : Lot) → down ≡ false → lot_of lots issue ≡ Some lot
    → pour_call issue down c lots ≡ Ok (free_of (order_book_of c) lots issue, lots_poured c issue lots)
unfolding pour_call
pours issue down c lots lot up found = rw (up, found) refl

-- what a pour leaves
pub poured_by : (old : ClearNode) (lots' : List Lot) (issue shares n poured : ℕ) (lot : Lot) → IsLawful old.log.records → AreWritable old.log.records → AreLots old.log.records old.lots
    → old.log.down ≡ false → lot_of old.lots issue ≡ Some lot → n ≡ length old.log.records → poured ≡ avail_in old.log.records issue → shares ≡ poured - lot.poured
    → lots' ≡ map (refilled issue n poured) old.lots → IsPoured old issue shares × Changes (pour_call issue old.log.down old.log.records old.lots) (Ok shares) old.lots lots'
poured_by old lots' issue shares n poured lot lawful fits are up found count avail is filled =
    let rest = rw avail at is in (
      pour_adds old issue shares lot lawful fits are found rest,
      changed _ _ _ _ _ _ (pours issue old.log.down old.log.records old.lots lot up found) (ap Ok (pour_free old issue shares lot found rest)) (rw (filled, count, avail)),
    )

-- no lot closes where none of the issue is open
pub close_none : (c : List ClearRecord) (lots : List Lot) (issue : ℕ) (tickets : List Ticket) (sealed : Bool) → lot_of lots issue ≡ None
    → close_call issue tickets sealed false c lots ≡ Err refusal.NoLot
unfolding tested_close_call
close_none c lots issue tickets sealed none = rw none refl

-- nor where there are no numbers for its deliveries
pub close_unnumbered : (c : List ClearRecord) (lots : List Lot) (issue : ℕ) (tickets : List Ticket) (sealed : Bool) (lot : Lot) → lot_of lots issue ≡ Some lot
    → are_spent (order_book_of c) (length (deliveries_by lot tickets sealed)) ≡ true → close_call issue tickets sealed false c lots ≡ Err refusal.NumbersSpent
unfolding tested_close_call
close_unnumbered c lots issue tickets sealed lot found spent = rw (found, spent) refl

-- else its allocation is recorded
pub close_goes : (node : ClearNode) (issue : ℕ) (tickets : List Ticket) (sealed : Bool) (lot : Lot) → node.log.down ≡ false → MayClose node issue tickets sealed lot
    → close_call issue tickets sealed node.log.down node.log.records node.lots ≡ Ok (Commits (entry.Allocate (closing_allocation lot tickets sealed)) (closed_of lot tickets sealed node.log.records))
unfolding tested_close_call
close_goes node issue tickets sealed lot up closes = rw (up, closes.found, closes.numbers) refl

-- tickets that are tested are refused where they do not serve the plan
pub tested_bad : (node : ClearNode) (issue : ℕ) (tickets : List Ticket) (sealed : Bool) (lot : Lot) → node.log.down ≡ false → lot_of node.lots issue ≡ Some lot
    → NodeLeaves (tested_close_call false issue tickets sealed node.log.down node.log.records node.lots) (Err refusal.BadTickets) node node
unfolding tested_close_call
tested_bad node issue tickets sealed lot up found = rw (up, found) (refl, refl)

-- ---- replies

-- the first reply to an order confirms it
pub reply_done : (r : Reply) (down : Bool) (c : List ClearRecord) → down ≡ false → answer_in c r ≡ answers.Done → reply_call r down c ≡ Ok (Commits (entry.Confirm r) Done)
unfolding reply_call
reply_done r down c up is = rw (up, is) refl

-- the same one again changes nothing
pub reply_again : (r : Reply) (node : ClearNode) → node.log.down ≡ false → answer_in node.log.records r ≡ answers.Again
    → NodeLeaves (reply_call r node.log.down node.log.records) (Ok Again) node node
unfolding reply_call
reply_again r node up is = rw (up, is) (refl, refl)

-- and any other is refused
pub reply_unknown : (r : Reply) (node : ClearNode) → node.log.down ≡ false → answer_in node.log.records r ≡ answers.UnknownMove
    → NodeLeaves (reply_call r node.log.down node.log.records) (Err refusal.UnknownMove) node node
unfolding reply_call
reply_unknown r node up is = rw (up, is) (refl, refl)

-- of an order that was confirmed with other shares
pub reply_other : (r : Reply) (node : ClearNode) → node.log.down ≡ false → answer_in node.log.records r ≡ answers.Conflict
    → NodeLeaves (reply_call r node.log.down node.log.records) (Err refusal.Conflict) node node
unfolding reply_call
reply_other r node up is = rw (up, is) (refl, refl)

-- of more shares than the order asked for
pub reply_much : (r : Reply) (node : ClearNode) → node.log.down ≡ false → answer_in node.log.records r ≡ answers.TooMuch
    → NodeLeaves (reply_call r node.log.down node.log.records) (Err refusal.TooMuch) node node
unfolding reply_call
reply_much r node up is = rw (up, is) (refl, refl)

-- Which records the calls commit.
use Rattle.std.proofs.Common.{◌≡◌, ◌==◌, ◌||◌, ℕ, Bool, length, true, false, List, Some, Result, Ok, Err, [], ◌∷◌, arith, inl, inr, not, refl}
use Rattle.std.specs.Prelude.{◌⊎◌, IfOk}
use Rattle.std.proofs.lemmas.Bool.Decides.{nat_tests}
use Rattle.std.proofs.lemmas.Result.{IfOk-weaker}
use Rattle.cns_ids.specs.Steps.{◌>>◌, need}
use Rattle.cns_ids.specs.declared.cycle.CycleId.{CycleId}
use Rattle.cns_trades.specs.declared.list.Verdict.{Verdict}
use Rattle.cns_trades.specs.declared.list.Verdict.TheVariants as verdicts
use Rattle.cns_trades.specs.declared.trade.Trade.{Trade}
use Rattle.cns_movements.specs.declared.book.Confirm.{Confirm}
use Rattle.cns_movements.specs.declared.book.Confirm.TheVariants as answers
use Rattle.cns_movements.specs.declared.order.Reply.{Reply}
use Rattle.cns_records.specs.Call.{Deed}
use Rattle.cns_records.specs.Call as call
use Rattle.cns_records.specs.declared.clear_record.ClearRecord.{ClearRecord}
use Rattle.cns_records.specs.declared.clear_record.ClearRecord.TheVariants as entry
use Rattle.cns_records.specs.declared.refusal.Refusal.{Refusal}
use Rattle.cns_records.specs.declared.refusal.Refusal.TheVariants as refusal
use Rattle.cns_pool.specs.declared.ticket.Ticket.{Ticket}
use Rattle.cns_allocate.specs.declared.planned.Planned.{Planned}
use Rattle.cns_clearing.specs.Answers.{closing_allocation, answer_in, close_call, close_deed, closed_of, covers_in, cycle_call, cycled_of, deliveries_by, reply_call, setting_call, tested_close_call, trade_call, need_up, verdict_in}
use Rattle.cns_clearing.specs.Books.{are_spent, is_later, latest_of, order_book_of}
use Rattle.cns_clearing.specs.Pools.{lot_of}
use Rattle.cns_clearing.specs.declared.answer.Closed.{Closed}
use Rattle.cns_clearing.specs.declared.answer.Cycled.{Cycled}
use Rattle.cns_clearing.specs.declared.answer.Taken.{Taken}
use Rattle.cns_clearing.specs.declared.answer.Taken.TheVariants as taken
use Rattle.cns_clearing.specs.declared.lot.Lot.{Lot}
use Rattle.cns_system.specs.Lot.{LotState}
use Rattle.cns_system.specs.Lots.{going_lot}
use Rattle.cns_system.specs.Numbered.{numbered_close}
use Rattle.cns_system.proofs.LotsLemmas.{IsGoing, going_parts}
use Rattle.cns_system.proofs.StepLemmas.{ok_found, ok_needed, ok_then}

-- what a call comes to where it is not refused: where it commits no record this is so of what is told, and else the node is up, and this is so of the
-- record and of what is told
abbrev pub Recorded : {R X : Type 0} → Bool → (X → Type 0) → (R → X → Type 0) → Deed R X → Type 0
Recorded down T Q (call.Tells x) = T x
Recorded down T Q (call.Commits r x) = (down ≡ false) × Q r x

-- it commits just this record
abbrev pub Commits : {X : Type 0} → Bool → ClearRecord → Deed ClearRecord X → Type 0
Commits down r d = Recorded down (λ x. ⊥) (λ k x. k ≡ r) d

-- what a node answers that is up is what comes after that
pub ok_up : {B : Type 0} (P : B → Type 0) (down : Bool) (next : Result B Refusal) → (down ≡ false → IfOk next P) → IfOk (need_up down >> next) P
ok_up P true next rest = tt
ok_up P false next rest = rest refl

pub trade_records : (t : Trade) (down : Bool) (c : List ClearRecord) → IfOk (trade_call t down c) (Commits down (entry.Accept t))
unfolding trade_call
trade_records t true c = tt
trade_records t false c = by (verdict_in c t)
  where
    by : (v : Verdict) → IfOk (elim v [ verdicts.New ↦ Ok (call.Commits (entry.Accept t) (tt {0})) | verdict ↦ Err (refusal.Trade verdict) ]) (Commits false (entry.Accept t))
    by verdicts.New = (refl, refl)
    by _ = tt

pub setting_records : (r : ClearRecord) (down : Bool) → IfOk (setting_call r down) (Commits down r)
unfolding setting_call
setting_records r down = ok_up (Commits down r) down (Ok (call.Commits r tt)) (λ up. (up, refl))

pub cycle_records : (id : CycleId) (down : Bool) (c : List ClearRecord) (lots : List Lot) → IfOk (cycle_call id down c lots) (Commits down (entry.Cycle id))
unfolding cycle_call
cycle_records id down c lots =
    let Q = Commits down (entry.Cycle id) in
    let later : Bool = is_later (latest_of c) id in
    let few : Bool = not (are_spent (order_book_of c) (length (covers_in c id.day))) in
    let deed : Result (Deed ClearRecord Cycled) Refusal = Ok (call.Commits (entry.Cycle id) (cycled_of c id)) in
    let room : Result (Deed ClearRecord Cycled) Refusal = need few refusal.NumbersSpent >> deed in
    let closed : Result (Deed ClearRecord Cycled) Refusal = need (length lots == 0) refusal.LotsOpen >> room in
    ok_up Q down (need later refusal.CycleOrder >> closed) (λ up.
    ok_needed Q later refusal.CycleOrder closed (λ is. ok_needed Q (length lots == 0) refusal.LotsOpen room (λ none. ok_needed Q few refusal.NumbersSpent deed (λ spare. (up, refl)))))

-- a reply is confirmed, or was before
abbrev pub Confirms : Bool → Reply → Deed ClearRecord Taken → Type 0
Confirms down reply d = Recorded down (λ x. x ≡ taken.Again) (λ r x. (r ≡ entry.Confirm reply) × (x ≡ taken.Done)) d

pub reply_records : (reply : Reply) (down : Bool) (c : List ClearRecord) → IfOk (reply_call reply down c) (Confirms down reply)
unfolding reply_call
reply_records reply true c = tt
reply_records reply false c = by (answer_in c reply)
  where
    by : (a : Confirm) → IfOk (elim a [
      | answers.Done ↦ Ok (call.Commits (entry.Confirm reply) taken.Done)
      | answers.Again ↦ Ok (call.Tells taken.Again)
      | answers.UnknownMove ↦ Err refusal.UnknownMove
      | answers.Conflict ↦ Err refusal.Conflict
      | answers.TooMuch ↦ Err refusal.TooMuch
    ]) (Confirms false reply)
    by answers.Done = (refl, (refl, refl))
    by answers.Again = refl
    by _ = tt

-- ---- a close

-- a lot is sealed, or nobody waits for a ticket of it
abbrev pub IsMet : LotState → Type 0
IsMet lot = (lot.sealed ≡ true) ⊎ (lot.turns ≡ [])

pub is_met : (l : LotState) → (l.sealed || (length l.turns == 0)) ≡ true → IsMet l
is_met l met = by l.sealed l.turns refl refl met
  where
    by : (sealed : Bool) (turns : List Planned) → l.sealed ≡ sealed → l.turns ≡ turns → (sealed || (length turns == 0)) ≡ true → IsMet l
    by true turns is waits met = inl is
    by false [] is waits met = inr waits
    by false (t ∷ ts) is waits met = let some : (length (t ∷ ts) == 0) ≡ false = grind (arith, nat_tests) in absurd (cc (some, met))

-- the lot of a number closes, and which lot of the node it is
pub record IsClose (number : ℕ) (open_lots : List Lot) (lots : List LotState) : Type 0 where
  pub lot : LotState
  pub at : IsGoing lots number lot
  pub met : IsMet lot
  pub twin : Lot
  pub found : lot_of open_lots lot.issue ≡ Some twin

-- its allocation
abbrev pub allocated : {number : ℕ} {open_lots : List Lot} {lots : List LotState} → IsClose number open_lots lots → ClearRecord
allocated close = entry.Allocate (closing_allocation close.twin close.lot.tickets close.lot.sealed)

abbrev pub Closes : ℕ → Bool → List Lot → List LotState → Deed ClearRecord Closed → Type 0
Closes number down open_lots lots d = Recorded down (λ x. ⊥) (λ r x. (close : IsClose number open_lots lots) × (r ≡ allocated close)) d

-- what the node's close comes to where it is not refused: the record of its lot
pub record IsCloseOf (issue : ℕ) (tickets : List Ticket) (sealed : Bool) (c : List ClearRecord) (lots : List Lot) (d : Deed ClearRecord Closed) : Type 0 where
  pub lot : Lot
  pub found : lot_of lots issue ≡ Some lot
  pub is : d ≡ call.Commits (entry.Allocate (closing_allocation lot tickets sealed)) (closed_of lot tickets sealed c)

pub close_record : (issue : ℕ) (tickets : List Ticket) (sealed down : Bool) (c : List ClearRecord) (lots : List Lot)
    → IfOk (close_call issue tickets sealed down c lots) (IsCloseOf issue tickets sealed c lots)
unfolding tested_close_call
close_record issue tickets sealed true c lots = tt
close_record issue tickets sealed false c lots =
    let Q = IsCloseOf issue tickets sealed c lots in
    ok_found Q (lot_of lots issue) refusal.NoLot (close_deed tickets sealed c) (λ lot found.
    ok_needed Q (not (are_spent (order_book_of c) (length (deliveries_by lot tickets sealed)))) refusal.NumbersSpent
    (Ok (call.Commits (entry.Allocate (closing_allocation lot tickets sealed)) (closed_of lot tickets sealed c))) (λ few. record { lot = lot; found = found; is = refl }))

pub close_records : (number : ℕ) (down : Bool) (c : List ClearRecord) (open_lots : List Lot) (lots : List LotState)
    → IfOk (numbered_close number down c open_lots lots) (Closes number down open_lots lots)
unfolding numbered_close
close_records number down c open_lots lots =
    let Q = Closes number down open_lots lots in
    let close : LotState → Result (Deed ClearRecord Closed) Refusal = λ lot. close_call lot.issue lot.tickets lot.sealed down c open_lots in
    let served : LotState → Bool = λ lot. lot.sealed || (length lot.turns == 0) in
    ok_then Q (going_lot lots number) (λ lot. need_up down >> (need (served lot) refusal.Unserved >> close lot)) (λ lot going.
    ok_up Q down (need (served lot) refusal.Unserved >> close lot) (λ up.
    ok_needed Q (served lot) refusal.Unserved (close lot) (λ met.
    IfOk-weaker (close lot) (IsCloseOf lot.issue lot.tickets lot.sealed c open_lots) Q (λ d is.
    let of_lot : IsClose number open_lots lots = record { lot = lot; at = going_parts lots number lot going; met = is_met lot met; twin = is.lot; found = is.found } in
    rw (is.is) (up, (of_lot, refl))) (close_record lot.issue lot.tickets lot.sealed down c open_lots))))

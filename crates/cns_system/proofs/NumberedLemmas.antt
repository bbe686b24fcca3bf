-- What the calls of a node with its lots by number come to and leave.
use Rattle.std.proofs.Common.{◌+◌, ◌≡◌, ◌≤◌, ◌<◌, ◌-◌, ◌∙◌, ℕ, List, [], ◌∷◌, ◌++◌, length, Option, Some, None, Result, Ok, Err, Bool, true, false, ap, sym, subst, refl, arith, inl, inr}
use Rattle.std.specs.Prelude.{◌==◌, ◌⊎◌, ◌||◌, slice_set, not, nat_lt, IfErr, IfOk, IsSome, option_map, unwrap_or, if◌then◌else◌}
use Rattle.std.proofs.lemmas.Bool.{eqb-true, false_from_ne_true}
use Rattle.std.proofs.lemmas.Bool.Decides.{nat_tests}
use Rattle.std.proofs.lemmas.Option.{same_Some}
use Rattle.cns_ids.specs.Steps.{◌>>=◌, ◌>>◌, need}
use Rattle.cns_netting.specs.Book.{IsBook}
use Rattle.cns_netting.specs.declared.entry.NetEntry.{NetEntry}
use Rattle.cns_covers.proofs.BoundLemmas.{settled_most}
use Rattle.cns_journal.specs.declared.record_log.CommitFault.TheVariants as commit
use Rattle.cns_pool.specs.declared.ticket.Ticket.{Ticket}
use Rattle.cns_allocate.specs.Plan.{IsPlan}
use Rattle.cns_allocate.specs.Served.{IsServed, turn_of, without}
use Rattle.cns_allocate.specs.declared.planned.Planned.{Planned}
use Rattle.cns_allocate.specs.declared.turns.Turn.{Turn}
use Rattle.cns_allocate.specs.declared.turns.Turn.TheVariants as turn
use Rattle.cns_allocate.proofs.PlanLemmas.{IsPlan-plan_of, bounded_longs}
use Rattle.cns_allocate.proofs.ServedLemmas.{served_more, served_none, served_whole, waiting-none, waiting_more}
use Rattle.cns_allocate.proofs.TotalLemmas.{plan_of-total}
use Rattle.cns_records.specs.Call.{CallLeaves, Changes, Deed}
use Rattle.cns_records.specs.Call as call
use Rattle.cns_records.specs.Refusals.{commit_refusal}
use Rattle.cns_records.specs.declared.clear_record.ClearRecord.{ClearRecord}
use Rattle.cns_records.specs.declared.clear_record.ClearRecord.TheVariants as entry
use Rattle.cns_clearing.specs.Answers as clear
use Rattle.cns_clearing.specs.Answers.{AreServed, NodeLeaves, closing_allocation}
use Rattle.cns_clearing.specs.Books.{IsLawful, books_of, history_of, order_book_of}
use Rattle.cns_clearing.specs.Lots.{avail_in, longs_among, lots_after, lots_poured, plan_in, refilled, without_lot}
use Rattle.cns_clearing.specs.Lots as node
use Rattle.cns_clearing.specs.Node.{ClearNode}
use Rattle.cns_clearing.specs.Pools.{free_of, lent_of, lot_of}
use Rattle.cns_clearing.proofs.BooksLemmas.{lawful_bounded}
use Rattle.cns_clearing.proofs.CallsLemmas.{pours}
use Rattle.cns_clearing.proofs.LotLemmas.{found_issue}
use Rattle.cns_clearing.specs.declared.answer.Closed.{Closed}
use Rattle.cns_records.specs.declared.refusal.Refusal.{Refusal}
use Rattle.cns_records.specs.declared.refusal.Refusal.TheVariants as refusal
use Rattle.cns_clearing.specs.declared.lot.Lot.{Lot}
use Rattle.cns_system.specs.Lot.{LotState, IsOfPlan, numbered_lot, planned_sum, ticket_in, with_end, with_seal, with_ticket}
use Rattle.cns_wire.specs.Packet.{at_number}
use Rattle.cns_system.specs.Lots.{change_call, draw_call, going_lot, turn_ticket, reserve_call, with_lot}
use Rattle.cns_system.specs.Numbered.{AreTied, IsNumberedCommit, NumberedNode, having_lots, numbered_close, with_lot_ended, numbered_open, opening_call, numbered_pour}
use Rattle.cns_system.proofs.LotsLemmas.{IsGoing, going_parts, ok_drawn}
use Rattle.cns_system.proofs.RecordedLemmas.{IsCloseOf, IsMet, Recorded, close_record, is_met}
use Rattle.cns_system.proofs.TiedLemmas.{ended_lots, found_poured, found_without, poured_keeps, tied_changed, tied_more}

-- ---- changes of the lots by number alone

-- what holds of the lots, and of those that the lot of a number makes of them, holds of what a call leaves
pub changed_by : {X : Type 0} (P : List LotState → Type 0) (lots : List LotState) (n : ℕ) (f : LotState → Result (X × List LotState) Refusal) (result : Result X Refusal)
    (after : List LotState) → P lots → ((l : LotState) → IsGoing lots n l → IfOk (f l) (λ xs. P xs.1)) → Changes (going_lot lots n >>= f) result lots after → P after
changed_by P lots n f result after here next h = by (going_lot lots n) refl h
  where
    of : (l : LotState) (r : Result _ Refusal) → f l ≡ r → IfOk (f l) (λ xs. P xs.1) → Changes (f l) result lots after → P after
    of l (Err r) is next h = let left : (result ≡ Err r) × (after ≡ lots) = rw is at h in subst P (sym left.1) here
    of l (Ok xs) is next h =
        let left : (result ≡ Ok xs.0) × (after ≡ xs.1) = rw is at h in
        let held : P xs.1 = rw is at next in
        subst P (sym left.1) held

    by : (g : Result LotState Refusal) → going_lot lots n ≡ g → Changes (g >>= f) result lots after → P after
    by (Err r) is h = subst P (sym h.1) here
    by (Ok l) is h = of l (f l) refl (next l (going_parts lots n l is)) h

-- a lot that stays of its issue and its plan
stays_tied : (open_lots : List Lot) (lots : List LotState) (n : ℕ) (l x : LotState) → AreTied open_lots lots → at_number lots n ≡ Some l → l.ended ≡ false
    → x.issue ≡ l.issue → ((plan : List Planned) → IsOfPlan plan l → IsOfPlan plan x) → AreTied open_lots (slice_set lots (n - 1) x)
stays_tied open_lots lots n l x are found going issue stays =
    let tied = are.each n l found going in
    tied_changed open_lots open_lots lots n l x are found going issue
    (λ up. record { twin = tied.twin; found = ap (lot_of open_lots) issue ∙ tied.found; is = stays tied.twin.plan tied.is })
    (λ other differ. refl)

-- what a ticket that is drawn tells of the lot
pub record IsDrawn (lot : LotState) (member : ℕ) (t : Ticket) : Type 0 where
  pub asked : ℕ
  pub turn_is : turn_of lot.turns member ≡ turn.Next asked
  pub unsealed : lot.sealed ≡ false
  pub is : t ≡ ticket_in lot member asked

pub ticket_parts : (lot : LotState) (member : ℕ) (t : Ticket) → turn_ticket lot member ≡ Ok t → IsDrawn lot member t
ticket_parts lot member t is = by (turn_of lot.turns member) refl is
  where
    drawn : (asked : ℕ) (b : Bool) → lot.sealed ≡ b → turn_of lot.turns member ≡ turn.Next asked → (need (not b) refusal.Sealed >> Ok (ticket_in lot member asked)) ≡ Ok t → IsDrawn lot member t
    drawn asked true sealed next is = absurd (cc is)
    drawn asked false sealed next is = record { asked = asked; turn_is = next; unsealed = sealed; is = let same : ticket_in lot member asked ≡ t = cc in sym same }

    by : (u : Turn) → turn_of lot.turns member ≡ u
        → (elim u [ turn.NotLong ↦ Err refusal.NotLong | turn.EarlierGroup ↦ Err refusal.EarlierGroup | turn.Next asked ↦ Ok asked ]
        >>= λ asked. need (not lot.sealed) refusal.Sealed >> Ok (ticket_in lot member asked)) ≡ Ok t → IsDrawn lot member t
    by turn.NotLong e is = absurd (cc is)
    by turn.EarlierGroup e is = absurd (cc is)
    by (turn.Next asked) e is = drawn asked lot.sealed refl e is

-- a lot whose next ticket was drawn
pub drawn_stays : (plan : List Planned) (l : LotState) (member : ℕ) (t : Ticket) → IsDrawn l member t → IsOfPlan plan l → IsOfPlan plan (with_ticket t l)
drawn_stays plan l member t drawn is = record {
  is = is.is;
  served =
      subst (λ (u : Ticket). IsServed plan (l.tickets ++ u ∷ []) true) (sym drawn.is)
      (served_more plan l.tickets member drawn.asked is.is is.served (ap (λ (left : List Planned). turn_of left member) (sym is.turns) ∙ drawn.turn_is));
  turns = ap (without t.member) is.turns ∙ sym (waiting_more plan l.tickets t);
}

pub seal_tied : (open_lots : List Lot) (n : ℕ) (r : Result (Unit {0}) Refusal) (lots after : List LotState) → AreTied open_lots lots
    → Changes (change_call with_seal n lots) r lots after → AreTied open_lots after
seal_tied open_lots n r lots after are h =
    changed_by (AreTied open_lots) lots n (λ l. Ok (tt, with_lot n (with_seal l) lots)) r after are
    (λ l at. stays_tied open_lots lots n l (with_seal l) are at.found at.going refl (λ plan is. record { is = is.is; served = is.served; turns = is.turns })) h

pub reserve_tied : (open_lots : List Lot) (n member : ℕ) (r : Result Ticket Refusal) (lots after : List LotState) → AreTied open_lots lots
    → Changes (reserve_call n member lots) r lots after → AreTied open_lots after
reserve_tied open_lots n member r lots after are h =
    changed_by (AreTied open_lots) lots n (λ l. draw_call member l >>= λ drawn. Ok (drawn.0, with_lot n drawn.1 lots)) r after are
    (λ l at. ok_drawn (λ xs. AreTied open_lots xs.1) member l (λ drawn. Ok (drawn.0, with_lot n drawn.1 lots))
    (λ t is. stays_tied open_lots lots n l (with_ticket t l) are at.found at.going refl (λ plan of. drawn_stays plan l member t (ticket_parts l member t is) of))) h

-- ---- calls of the node alone

-- a call whose record is no allocation leaves the node's open lots
pub call_lots : {X : Type 0} (deed : Result (Deed ClearRecord X) Refusal) (T : X → Type 0) (Q : ClearRecord → X → Type 0) (result : Result X Refusal) (old new : ClearNode)
    → ((r : ClearRecord) (x : X) → Q r x → (lots : List Lot) → lots_after r lots ≡ lots) → IfOk deed (Recorded old.log.down T Q) → NodeLeaves deed result old new → new.lots ≡ old.lots
call_lots (Err r) T Q result old new quiet records (answer, same) = ap (λ (n : ClearNode). n.lots) same
call_lots (Ok (call.Tells x)) T Q result old new quiet records (answer, same) = ap (λ (n : ClearNode). n.lots) same
call_lots (Ok (call.Commits r x)) T Q result old new quiet records (Ok u, answer, added) = added.2 ∙ quiet r x records.1 old.lots
call_lots (Ok (call.Commits r x)) T Q result old new quiet records (Err commit.OutOfMemory, answer, same) = ap (λ (n : ClearNode). n.lots) same
call_lots (Ok (call.Commits r x)) T Q result old new quiet records (Err commit.Device, answer, failed) = failed.2

-- and so those by number stay tied to them
pub call_tied : {X : Type 0} (deed : Result (Deed ClearRecord X) Refusal) (T : X → Type 0) (Q : ClearRecord → X → Type 0) (result : Result X Refusal) (old new : ClearNode)
    (lots : List LotState) → ((r : ClearRecord) (x : X) → Q r x → (ls : List Lot) → lots_after r ls ≡ ls) → IfOk deed (Recorded old.log.down T Q) → AreTied old.lots lots
    → NodeLeaves deed result old new → AreTied new.lots lots
call_tied deed T Q result old new lots quiet records are left = subst (λ (ls : List Lot). AreTied ls lots) (sym (call_lots deed T Q result old new quiet records left)) are

-- ---- an opening

-- a plan asks for at most 10^18 shares in all
pub small_plan : (c : List ClearRecord) (issue : ℕ) (h : List NetEntry) (plan : List Planned) → IsLawful c → h ≡ history_of c → IsBook h → plan ≡ plan_in c issue
    → planned_sum plan ≤ 1000000000000000000
small_plan c issue h plan lawful is fits is_plan =
    let bounded = (lawful_bounded c lawful).bounded in
    subst (λ (ps : List Planned). planned_sum ps ≤ 1000000000000000000) (sym is_plan)
    (plan_of-total issue (history_of c) (order_book_of c) (books_of c).priorities (longs_among issue (books_of c).previous) (subst IsBook is fits)
    (λ m i. settled_most (history_of c) (order_book_of c) bounded m i))

-- and is one
pub lawful_plan : (c : List ClearRecord) (issue : ℕ) (h : List NetEntry) (plan : List Planned) → IsLawful c → h ≡ history_of c → IsBook h → plan ≡ plan_in c issue → IsPlan plan
lawful_plan c issue h plan lawful is fits is_plan =
    let longs = bounded_longs (history_of c) (order_book_of c) (subst IsBook is fits) (lawful_bounded c lawful).bounded in
    subst IsPlan (sym is_plan) (IsPlan-plan_of issue (history_of c) (order_book_of c) (books_of c).priorities (longs_among issue (books_of c).previous) longs)

-- where no lot is open, all shares that are there are free
pub all_free : (c : List ClearRecord) (open_lots : List Lot) (issue : ℕ) → lot_of open_lots issue ≡ None → free_of (order_book_of c) open_lots issue ≡ avail_in c issue
all_free c open_lots issue none =
    let lent : lent_of open_lots issue ≡ 0 = ap (λ (o : Option Lot). unwrap_or (option_map (λ (l : Lot). l.poured) o) 0) none in omega (arith, lent)

-- a lot as it is opened is of its plan
new_stays : (issue : ℕ) (plan : List Planned) → IsPlan plan → IsOfPlan plan (numbered_lot issue plan)
new_stays issue plan is = record { is = is; served = served_none plan is; turns = sym (waiting-none plan) }

pub open_tied : (old new : ClearNode) (lots after : List LotState) (issue : ℕ) (plan : List Planned) (lot : LotState) → AreTied old.lots lots → lot_of old.lots issue ≡ None
    → new ≡ record old { lots = old.lots ++ node.new_lot old.log.records issue ∷ [] } → plan ≡ plan_in old.log.records issue → IsPlan plan → lot ≡ numbered_lot issue plan
    → after ≡ lots ++ lot ∷ [] → AreTied new.lots after
open_tied old new lots after issue plan lot are none opened is_plan lawful is_lot is =
    let one : IsOfPlan (plan_in old.log.records issue) lot =
    subst (IsOfPlan (plan_in old.log.records issue)) (sym is_lot) (subst (λ (ps : List Planned). IsOfPlan ps (numbered_lot issue plan)) is_plan (new_stays issue plan lawful)) in
    subst (λ (l : List Lot). AreTied l after) (sym (ap (λ (n : ClearNode). n.lots) opened))
    (subst (AreTied (old.lots ++ node.new_lot old.log.records issue ∷ [])) (sym is)
    (tied_more old.lots lots (node.new_lot old.log.records issue) lot are (ap (λ (l : LotState). lot_of old.lots l.issue) is_lot ∙ none) (ap (λ (l : LotState). l.issue) (sym is_lot)) one))

pub opening_down : (issue : ℕ) (n : NumberedNode) → n.clear.log.down ≡ true → opening_call issue n ≡ Err refusal.Down
unfolding numbered_open clear.open_call
opening_down issue n is = rw is refl

pub opening_again : (issue : ℕ) (n : NumberedNode) → n.clear.log.down ≡ false → IsSome (lot_of n.clear.lots issue) → opening_call issue n ≡ Err refusal.LotAlready
unfolding numbered_open clear.open_call
opening_again issue n up some = by (lot_of n.clear.lots issue) refl some
  where
    by : (o : Option Lot) → lot_of n.clear.lots issue ≡ o → IsSome o → opening_call issue n ≡ Err refusal.LotAlready
    by None found some = let no : false ≡ true = some in cc
    by (Some lot) found some = rw (up, found) refl

pub opening_spent : (issue : ℕ) (n : NumberedNode) → n.clear.log.down ≡ false → lot_of n.clear.lots issue ≡ None → 1000000 ≤ length n.lots → opening_call issue n ≡ Err refusal.LotsSpent
unfolding numbered_open clear.open_call
opening_spent issue n up none spent = let full : nat_lt (length n.lots) 1000000 ≡ false = grind (arith, nat_tests, spent) in rw (up, none, full) refl

pub opening_goes : (issue : ℕ) (n : NumberedNode) → n.clear.log.down ≡ false → lot_of n.clear.lots issue ≡ None → length n.lots < 1000000
    → let lot = node.new_lot n.clear.log.records issue in
    opening_call issue n ≡ Ok (record { number = length n.lots + 1; poured = lot.poured; plan = lot.plan }, having_lots (n.clear.lots ++ lot ∷ [], n.lots ++ numbered_lot issue lot.plan ∷ []) n)
unfolding numbered_open clear.open_call
opening_goes issue n up none room = let few : nat_lt (length n.lots) 1000000 ≡ true = grind (arith, nat_tests, room) in rw (up, none, few) refl

-- ---- a pour

poured_other : (c : List ClearRecord) (issue : ℕ) (l : Lot) → (l.issue ≡ issue → ⊥) → refilled issue (length c) (avail_in c issue) l ≡ l
poured_other c issue l differ =
    ap (λ b. if b then record l { upto = length c; poured = avail_in c issue } else l) (false_from_ne_true (l.issue == issue) (λ e. differ (eqb-true l.issue issue e)))

pub others_poured : (c : List ClearRecord) (issue other : ℕ) (lots : List Lot) → (other ≡ issue → ⊥) → lot_of (lots_poured c issue lots) other ≡ lot_of lots other
others_poured c issue other lots differ = found_poured c issue other lots ∙ by (lot_of lots other) refl
  where
    by : (o : Option Lot) → lot_of lots other ≡ o → option_map (refilled issue (length c) (avail_in c issue)) o ≡ o
    by None e = refl
    by (Some l) e = ap Some (poured_other c issue l (λ is. differ (sym (found_issue lots other l e) ∙ is)))

-- the lot of a number is poured into, as the node pours into its lot of the issue
pub poured_of : (number : ℕ) (node : ClearNode) (lots : List LotState) (l : LotState) (new : List Lot) (shares : ℕ) → AreTied node.lots lots → going_lot lots number ≡ Ok l
    → node.log.down ≡ false → Changes (clear.pour_call l.issue node.log.down node.log.records node.lots) (Ok shares) node.lots new
    → Changes (numbered_pour number node.log.down node.log.records node.lots lots) (Ok shares) node.lots new × (new ≡ lots_poured node.log.records l.issue node.lots)
unfolding numbered_pour
poured_of number node lots l new shares are going up h =
    let at = going_parts lots number l going in
    let twin = are.each number l at.found at.going in
    let left : (Ok shares ≡ Ok (free_of (order_book_of node.log.records) node.lots l.issue)) × (new ≡ lots_poured node.log.records l.issue node.lots) =
    rw (pours l.issue node.log.down node.log.records node.lots twin.twin up twin.found) at h in
    (rw going h, left.1)

pub pour_none : (number : ℕ) (down : Bool) (c : List ClearRecord) (open_lots : List Lot) (lots : List LotState) (r : Refusal) → going_lot lots number ≡ Err r
    → numbered_pour number down c open_lots lots ≡ Err r
unfolding numbered_pour
pour_none number down c open_lots lots r none = rw none refl

pub pour_down : (number : ℕ) (down : Bool) (c : List ClearRecord) (open_lots : List Lot) (lots : List LotState) (l : LotState) → going_lot lots number ≡ Ok l → down ≡ true
    → numbered_pour number down c open_lots lots ≡ Err refusal.Down
unfolding numbered_pour clear.pour_call
pour_down number down c open_lots lots l going is = rw (going, is) refl

-- the node never refuses it
pub pour_never : (number : ℕ) (node : ClearNode) (lots : List LotState) (l : LotState) (new : List Lot) (r : Refusal) → AreTied node.lots lots → going_lot lots number ≡ Ok l
    → node.log.down ≡ false → Changes (clear.pour_call l.issue node.log.down node.log.records node.lots) (Err r) node.lots new → ⊥
pour_never number node lots l new r are going up h =
    let at = going_parts lots number l going in
    let twin = are.each number l at.found at.going in
    let left : (Err r ≡ Ok (free_of (order_book_of node.log.records) node.lots l.issue)) × (new ≡ lots_poured node.log.records l.issue node.lots) =
    rw (pours l.issue node.log.down node.log.records node.lots twin.twin up twin.found) at h in
    cc left.0

-- a pour leaves the lots of other issues, and the plan of its own
pub pour_tied : (c : List ClearRecord) (open_lots after : List Lot) (lots : List LotState) (issue : ℕ) → AreTied open_lots lots → after ≡ lots_poured c issue open_lots → AreTied after lots
pour_tied c open_lots after lots issue are poured =
    subst (λ (l : List Lot). AreTied l lots) (sym poured) (record {
      each = λ m k at up.
          let tied = are.each m k at up in
          record {
            twin = refilled issue (length c) (avail_in c issue) tied.twin;
            found = found_poured c issue k.issue open_lots ∙ ap (option_map (refilled issue (length c) (avail_in c issue))) tied.found;
            is = subst (λ (ps : List Planned). IsOfPlan ps k) (sym (poured_keeps (λ (l : Lot). l.plan) c issue tied.twin refl)) tied.is;
          };
      once = are.once;
    })

-- ---- a close

met_told : (l : LotState) → IsMet l → (l.sealed || (length l.turns == 0)) ≡ true
met_told l met = by l.sealed refl met
  where
    by : (b : Bool) → l.sealed ≡ b → IsMet l → (b || (length l.turns == 0)) ≡ true
    by true e m = refl
    by false e (inl sealed) = let no : false ≡ true = sym e ∙ sealed in cc
    by false e (inr nobody) = rw nobody refl

not_met : (l : LotState) → (IsMet l → ⊥) → (l.sealed || (length l.turns == 0)) ≡ false
not_met l waits = false_from_ne_true (l.sealed || (length l.turns == 0)) (λ told. waits (is_met l told))

-- the tickets of a lot that is sealed, or in which nobody waits, serve its plan
pub met_served : (plan : List Planned) (l : LotState) → IsOfPlan plan l → IsMet l → IsServed plan l.tickets l.sealed
met_served plan l is met = by l.sealed refl met
  where
    by : (b : Bool) → l.sealed ≡ b → (l.sealed ≡ true) ⊎ (l.turns ≡ []) → IsServed plan l.tickets b
    by true e m = is.served
    by false e (inl is_sealed) = let no : true ≡ false = sym is_sealed ∙ e in cc
    by false e (inr nobody) = served_whole plan l.tickets is.is is.served (sym is.turns ∙ nobody)

-- so they serve that of the node's lot
pub served_by : (number : ℕ) (open_lots : List Lot) (lots : List LotState) (l : LotState) → AreTied open_lots lots → IsGoing lots number l → IsMet l
    → AreServed open_lots l.issue l.tickets l.sealed
served_by number open_lots lots l are at met = λ twin found.
    let tied = are.each number l at.found at.going in
    let same : tied.twin ≡ twin = same_Some tied.twin twin (sym tied.found ∙ found) in
    subst (λ (k : Lot). IsServed k.plan l.tickets l.sealed) same (met_served tied.twin.plan l tied.is met)

-- the close of the lot of a number is that of the node's lot of its issue
pub close_is : (number : ℕ) (down : Bool) (c : List ClearRecord) (open_lots : List Lot) (lots : List LotState) (l : LotState) → going_lot lots number ≡ Ok l → down ≡ false → IsMet l
    → numbered_close number down c open_lots lots ≡ clear.close_call l.issue l.tickets l.sealed down c open_lots
unfolding numbered_close
close_is number down c open_lots lots l going up met = rw (going, up, met_told l met) refl

pub close_none : (number : ℕ) (down : Bool) (c : List ClearRecord) (open_lots : List Lot) (lots : List LotState) (r : Refusal) → going_lot lots number ≡ Err r
    → numbered_close number down c open_lots lots ≡ Err r
unfolding numbered_close
close_none number down c open_lots lots r none = rw none refl

pub close_down : (number : ℕ) (down : Bool) (c : List ClearRecord) (open_lots : List Lot) (lots : List LotState) (l : LotState) → going_lot lots number ≡ Ok l → down ≡ true
    → numbered_close number down c open_lots lots ≡ Err refusal.Down
unfolding numbered_close
close_down number down c open_lots lots l going is = rw (going, is) refl

pub close_unserved : (number : ℕ) (down : Bool) (c : List ClearRecord) (open_lots : List Lot) (lots : List LotState) (l : LotState) → going_lot lots number ≡ Ok l → down ≡ false
    → (IsMet l → ⊥) → numbered_close number down c open_lots lots ≡ Err refusal.Unserved
unfolding numbered_close
close_unserved number down c open_lots lots l going up waits = rw (going, up, not_met l waits) refl

-- the end of a lot that has not ended
pub end_is : (lots after : List LotState) (number : ℕ) (l : LotState) (r : Result (Unit {0}) Refusal) → going_lot lots number ≡ Ok l → Changes (change_call with_end number lots) r lots after
    → after ≡ with_lot_ended number lots
end_is lots after number l r going h =
    let at = going_parts lots number l going in
    let left : (r ≡ Ok tt) × (after ≡ with_lot number (with_end l) lots) = rw going at h in
    left.1 ∙ sym (ended_lots lots number l at.found)

-- what the node's close leaves is what that of the lot's number does, where the lot ends just where the close is not refused
pub closed_by : (number : ℕ) (old : NumberedNode) (l : LotState) (result : Result Closed Refusal) (new : ClearNode) (after : List LotState) → going_lot old.lots number ≡ Ok l
    → old.clear.log.down ≡ false → IsMet l → NodeLeaves (clear.close_call l.issue l.tickets l.sealed old.clear.log.down old.clear.log.records old.clear.lots) result old.clear new
    → IfOk result (λ _. after ≡ with_lot_ended number old.lots) → IfErr result (λ _. after ≡ old.lots)
    → CallLeaves commit_refusal (IsNumberedCommit (with_lot_ended number)) (numbered_close number old.clear.log.down old.clear.log.records old.clear.lots old.lots) result old
    (record { clear = new; lots = after })
closed_by number old l result new after going up met left ended kept =
    rw (close_is number old.clear.log.down old.clear.log.records old.clear.lots old.lots l going up met)
    (by (clear.close_call l.issue l.tickets l.sealed old.clear.log.down old.clear.log.records old.clear.lots)
    (close_record l.issue l.tickets l.sealed old.clear.log.down old.clear.log.records old.clear.lots) left)
  where
    by : (d : Result (Deed ClearRecord Closed) Refusal) → IfOk d (IsCloseOf l.issue l.tickets l.sealed old.clear.log.records old.clear.lots) → NodeLeaves d result old.clear new
        → CallLeaves commit_refusal (IsNumberedCommit (with_lot_ended number)) d result old (record { clear = new; lots = after })
    by (Err r) is (answer, same) = (answer, rw (same, rw answer at kept) refl)
    by (Ok (call.Tells x)) is left = absurd (cc is.is)
    by (Ok (call.Commits r x)) is (Ok u, answer, left) = (Ok u, answer, (left, rw answer at ended))
    by (Ok (call.Commits r x)) is (Err fault, answer, left) = (Err fault, answer, (left, rw answer at kept))

-- a close that is refused leaves the node's open lots, and one that is not takes the lot of its issue from them
pub close_lots : (old new : ClearNode) (l : LotState) (result : Result Closed Refusal)
    → NodeLeaves (clear.close_call l.issue l.tickets l.sealed old.log.down old.log.records old.lots) result old new
    → new.lots ≡ elim result [ Ok done ↦ without_lot l.issue old.lots | Err r ↦ old.lots ]
close_lots old new l result left =
    by (clear.close_call l.issue l.tickets l.sealed old.log.down old.log.records old.lots)
    (close_record l.issue l.tickets l.sealed old.log.down old.log.records old.lots) left
  where
    by : (d : Result (Deed ClearRecord Closed) Refusal) → IfOk d (IsCloseOf l.issue l.tickets l.sealed old.log.records old.lots) → NodeLeaves d result old new
        → new.lots ≡ elim result [ Ok done ↦ without_lot l.issue old.lots | Err r ↦ old.lots ]
    by (Err f) is (answer, same) = rw answer (ap (λ (n : ClearNode). n.lots) same)
    by (Ok (call.Tells x)) is left = absurd (cc is.is)
    by (Ok (call.Commits r x)) is (Ok u, answer, added) =
        let record_is : r ≡ entry.Allocate (closing_allocation is.lot l.tickets l.sealed) = cc is.is in
        rw answer (added.2 ∙ rw record_is (ap (λ (i : ℕ). without_lot i old.lots) (found_issue old.lots l.issue is.lot is.found)))
    by (Ok (call.Commits r x)) is (Err commit.OutOfMemory, answer, same) = rw answer (ap (λ (n : ClearNode). n.lots) same)
    by (Ok (call.Commits r x)) is (Err commit.Device, answer, failed) = rw answer failed.2

-- and the lots by number stay tied to them
pub close_tied : (old new : ClearNode) (lots after : List LotState) (number : ℕ) (l : LotState) → AreTied old.lots lots → going_lot lots number ≡ Ok l
    → new.lots ≡ without_lot l.issue old.lots → after ≡ with_lot_ended number lots → AreTied new.lots after
close_tied old new lots after number l are going taken ended =
    let at = going_parts lots number l going in
    subst (λ (ls : List Lot). AreTied ls after) (sym taken)
    (subst (AreTied (without_lot l.issue old.lots)) (sym (ended ∙ ended_lots lots number l at.found))
    (tied_changed old.lots (without_lot l.issue old.lots) lots number l (with_end l) are at.found at.going refl (λ up. absurd (let no : true ≡ false = up in cc))
    (λ other differ. found_without l.issue other old.lots differ)))

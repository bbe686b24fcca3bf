-- What new orders ask for, by kind, member and issue, and what they leave open.
use Rattle.std.proofs.Common.{◌≡◌, ℕ, suc, ◌+◌, Bool, true, false, List, [], ◌∷◌, ◌++◌, length, sym, refl, ◌∙◌, arith}
use Rattle.std.specs.Prelude.{◌&&◌, ◌==◌, All, Option, sum_by, if◌then◌else◌}
use Rattle.std.proofs.lemmas.Bool.{eq-eqb, eqb-true, false_from_ne_true}
use Rattle.std.proofs.lemmas.List.Elements.{All-head, All-tail}
use Rattle.std.proofs.lemmas.List.Sums.{sum_by-cons}
use Rattle.cns_ids.specs.declared.cycle.CycleId.{CycleId}
use Rattle.cns_movements.specs.Book.{IsOrderBook, Orders, with_asks}
use Rattle.cns_movements.specs.OpenShares.{asked_by}
use Rattle.cns_movements.specs.Order.{is_of, numbered, open_sum, order_from, same_kind}
use Rattle.cns_movements.specs.declared.order.Ask.{Ask}
use Rattle.cns_movements.specs.declared.order.MoveKind.{MoveKind}
use Rattle.cns_movements.specs.declared.order.MoveKind.TheVariants.{Cover, Delivery}
use Rattle.cns_movements.specs.declared.order.Order.{Order}
use Rattle.cns_movements.proofs.ReplyLemmas.{moved_of_above, open_sum-append, open_sum_new}

-- numbered as orders they ask for the same
pub asked_by-numbered : (kind : MoveKind) (m i n : ℕ) (cycle : Option CycleId) (asks : List Ask)
    → sum_by (λ (o : Order). if is_of kind m i o then o.asked else 0) (numbered n cycle asks) ≡ asked_by kind m i asks
unfolding asked_by
asked_by-numbered kind m i n cycle [] = refl
asked_by-numbered kind m i n cycle (a ∷ asks) =
    let o : Order = order_from n cycle a in
    omega (arith, sum_by-cons (λ (o : Order). if is_of kind m i o then o.asked else 0) o (numbered (suc n) cycle asks), asked_by-numbered kind m i (suc n) cycle asks)

-- a book with more asks has open what it had open before and all that they ask for
pub open_sum_asked : (book : Orders) (cycle : Option CycleId) (asks : List Ask) (kind : MoveKind) (m i : ℕ) → IsOrderBook book
    → open_sum (book.orders ++ numbered (length book.orders + 1) cycle asks) book.replies kind m i ≡ open_sum book.orders book.replies kind m i + asked_by kind m i asks
open_sum_asked book cycle asks kind m i lawful =
    let os = book.orders in
    let rs = book.replies in
    let next : ℕ = length os + 1 in
    omega (
      arith,
      open_sum-append os (numbered next cycle asks) rs kind m i,
      open_sum_new next cycle asks rs kind m i (λ j le. moved_of_above os rs j lawful.numbered lawful.known (omega arith)),
      asked_by-numbered kind m i next cycle asks,
    )

-- ---- another kind

-- asks of one kind ask for nothing of another
asked_by-other_kind : (kind other : MoveKind) (m i : ℕ) (asks : List Ask) → same_kind kind other ≡ false → All (λ (a : Ask). a.kind ≡ other) asks → asked_by kind m i asks ≡ 0
unfolding asked_by
asked_by-other_kind kind other m i [] differ all = refl
asked_by-other_kind kind other m i (a ∷ asks) differ all =
    let rest = asked_by-other_kind kind other m i asks differ (All-tail (λ (b : Ask). b.kind ≡ other) a asks all) in
    rw (All-head (λ (b : Ask). b.kind ≡ other) a asks all, differ) (omega (arith, rest))

-- new deliveries change no open covers
pub deliveries_leave_covers : (book : Orders) (cycle : Option CycleId) (asks : List Ask) (m i : ℕ) → IsOrderBook book → All (λ (a : Ask). a.kind ≡ Delivery) asks
    → open_sum (with_asks book cycle asks).orders book.replies Cover m i ≡ open_sum book.orders book.replies Cover m i
deliveries_leave_covers book cycle asks m i lawful all = omega (arith, open_sum_asked book cycle asks Cover m i lawful, asked_by-other_kind Cover Delivery m i asks refl all)

-- and new covers no open deliveries
pub covers_leave_deliveries : (book : Orders) (cycle : Option CycleId) (asks : List Ask) (m i : ℕ) → IsOrderBook book → All (λ (a : Ask). a.kind ≡ Cover) asks
    → open_sum (with_asks book cycle asks).orders book.replies Delivery m i ≡ open_sum book.orders book.replies Delivery m i
covers_leave_deliveries book cycle asks m i lawful all = omega (arith, open_sum_asked book cycle asks Delivery m i lawful, asked_by-other_kind Delivery Cover m i asks refl all)

-- ---- another issue

-- what is of one issue is not of another
pub not_issue : (its issue other : ℕ) → (issue == other) ≡ false → its ≡ other → (its == issue) ≡ false
not_issue its issue other differ same = false_from_ne_true _ (λ e. let back : (issue == other) ≡ true = eq-eqb issue other (sym (eqb-true its issue e) ∙ same) in cc)

-- asks of another issue ask for nothing of this one
asked_by-other_issue : (kind : MoveKind) (m i other : ℕ) (asks : List Ask) → (i == other) ≡ false → All (λ (a : Ask). a.issue ≡ other) asks → asked_by kind m i asks ≡ 0
unfolding asked_by
asked_by-other_issue kind m i other [] differ all = refl
asked_by-other_issue kind m i other (a ∷ asks) differ all =
    let rest = asked_by-other_issue kind m i other asks differ (All-tail (λ (b : Ask). b.issue ≡ other) a asks all) in
    let here = by (same_kind kind a.kind) (a.member == m) (a.issue == i) (not_issue a.issue i other differ (All-head (λ (b : Ask). b.issue ≡ other) a asks all)) in
    omega (arith, here, rest)
  where
    by : (same here its : Bool) → its ≡ false → (if same && (here && its) then a.asked else 0) ≡ 0
    by true true its e = rw e refl
    by true false its e = refl
    by false here its e = refl

-- so new orders of another issue change nothing that is open in this one
pub others_leave_open : (book : Orders) (cycle : Option CycleId) (asks : List Ask) (kind : MoveKind) (m i other : ℕ) → IsOrderBook book → (i == other) ≡ false → All (λ (a : Ask). a.issue ≡ other) asks
    → open_sum (with_asks book cycle asks).orders book.replies kind m i ≡ open_sum book.orders book.replies kind m i
others_leave_open book cycle asks kind m i other lawful differ all =
    omega (arith, open_sum_asked book cycle asks kind m i lawful, asked_by-other_issue kind m i other asks differ all)

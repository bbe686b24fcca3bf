-- Confirmations by the numbers of their orders, and what one more of them does to the sums.
use Rattle.std.proofs.Common.{◌≡◌, ℕ, suc, ◌+◌, ◌<◌, ◌≤◌, Bool, eqb, List, [], ◌∷◌, ◌++◌, length, Option, Some, None, sym, refl, ap, ◌∙◌, arith, inl, inr}
use Rattle.std.specs.Prelude.{find, option_map, is_some, unwrap_or, sum_by, if◌then◌else◌}
use Rattle.std.proofs.lemmas.Bool.{cases_eq, eq-eqb, ne_eqb, cond-true, cond-false}
use Rattle.std.proofs.lemmas.Option.{none-some, same_Some}
use Rattle.std.proofs.lemmas.List.Sums.{sum_by-append, sum_by-cons}
use Rattle.cns_ids.specs.declared.cycle.CycleId.{CycleId}
use Rattle.cns_movements.specs.declared.order.MoveKind.{MoveKind}
use Rattle.cns_movements.specs.declared.order.Order.{Order}
use Rattle.cns_movements.specs.declared.order.Ask.{Ask}
use Rattle.cns_movements.specs.declared.order.Reply.{Reply}
use Rattle.cns_movements.specs.Order.{order_from, order_of, moved_of, is_of, open_part, moved_part, open_sum, moved_sum, numbered, IsNumbered, AreKnown}
use Rattle.cns_movements.proofs.OrderLemmas.{order_of-append, order_of_above, order_of_number, sum_but_one, sum_same_from, IsNumbered-numbered}

-- the newest confirmation decides under its own number
pub moved_of_same : (r : Reply) (rs : List Reply) (n : ℕ) → r.number ≡ n → moved_of (r ∷ rs) n ≡ Some r.moved
moved_of_same r rs n e =
    ap (option_map (λ (y : Reply). y.moved)) (cond-true (eqb r.number n) (Some r) (find (λ (y : Reply). eqb y.number n) rs) (eq-eqb r.number n e))

-- and under another number the older ones
pub moved_of_other : (r : Reply) (rs : List Reply) (n : ℕ) → (r.number ≡ n → ⊥) → moved_of (r ∷ rs) n ≡ moved_of rs n
moved_of_other r rs n ne =
    ap (option_map (λ (y : Reply). y.moved)) (cond-false (eqb r.number n) (Some r) (find (λ (y : Reply). eqb y.number n) rs) (ne_eqb r.number n ne))

-- confirmations stay known as the list of orders grows
pub AreKnown-append : (os more : List Order) (rs : List Reply) → AreKnown os rs → AreKnown (os ++ more) rs
AreKnown-append os more [] h = tt
AreKnown-append os more (r ∷ rs) h =
    (record { order = h.0.order; found = order_of-append os more r.number h.0.order h.0.found; within = h.0.within }, AreKnown-append os more rs h.1)

-- a number with no order is not confirmed
pub moved_of_unknown : (os : List Order) (rs : List Reply) (n : ℕ) → AreKnown os rs → order_of os n ≡ None → moved_of rs n ≡ None
moved_of_unknown os [] n h none = refl
moved_of_unknown os (r ∷ rs) n h none =
    elim (cases_eq r.number n) [
      | inl e ↦ absurd (none-some h.0.order (sym none ∙ ap (order_of os) (sym e) ∙ h.0.found))
      | inr ne ↦ moved_of_other r rs n ne ∙ moved_of_unknown os rs n h.1 none
    ]

-- nor is a number past the last order's
pub moved_of_above : (os : List Order) (rs : List Reply) (n : ℕ) → IsNumbered 1 os → AreKnown os rs → length os < n → moved_of rs n ≡ None
moved_of_above os rs n h known above = moved_of_unknown os rs n known (order_of_above os 1 n h (omega arith))

-- a confirmed order moved no more than it asked for
pub moved_le_asked : (os : List Order) (rs : List Reply) (n m : ℕ) (o : Order) → AreKnown os rs → order_of os n ≡ Some o → moved_of rs n ≡ Some m → m ≤ o.asked
moved_le_asked os [] n m o h found confirmed = absurd (none-some m confirmed)
moved_le_asked os (r ∷ rs) n m o h found confirmed =
    elim (cases_eq r.number n) [
      | inl e ↦
          let moved : r.moved ≡ m = same_Some r.moved m (sym (moved_of_same r rs n e) ∙ confirmed) in
          let order : h.0.order ≡ o = same_Some h.0.order o (sym h.0.found ∙ ap (order_of os) e ∙ found) in
          let asked : h.0.order.asked ≡ o.asked = ap (λ (y : Order). y.asked) order in
          let within = h.0.within in omega arith
      | inr ne ↦ moved_le_asked os rs n m o h.1 found (sym (moved_of_other r rs n ne) ∙ confirmed)
    ]

-- the term of one order in a sum over some orders
abbrev term : Bool → ℕ → ℕ
term counted part = if counted then part else 0

-- a part of 0 is a term of 0, whether it is counted or not
pub nothing_either : (b : Bool) (p : ℕ) → p ≡ 0 → (if b then p else 0) ≡ 0
nothing_either b p e = grind arith

-- a first confirmation takes what its order asked for out of the open shares, whichever orders are counted
pub open_with_reply : (counted : Order → Bool) (os : List Order) (rs : List Reply) (r : Reply) (o : Order) → IsNumbered 1 os
    → order_of os r.number ≡ Some o → moved_of rs r.number ≡ None
    → sum_by (λ (y : Order). if counted y then open_part (r ∷ rs) y else 0) os + (if counted o then o.asked else 0)
    ≡ sum_by (λ (y : Order). if counted y then open_part rs y else 0) os
open_with_reply counted os rs r o h found first =
    let number = order_of_number os r.number o found in
    let others : (y : Order) → (y.number ≡ r.number → ⊥) → term (counted y) (open_part (r ∷ rs) y) ≡ term (counted y) (open_part rs y) =
    λ y ne. ap (λ (m : Option ℕ). term (counted y) (if is_some m then 0 else y.asked)) (moved_of_other r rs y.number (λ e. ne (sym e))) in
    let after : term (counted o) (open_part (r ∷ rs) o) ≡ 0 =
    ap (λ (m : Option ℕ). term (counted o) (if is_some m then 0 else o.asked)) (moved_of_same r rs o.number (sym number)) ∙ nothing_either (counted o) 0 refl in
    let before : term (counted o) (open_part rs o) ≡ term (counted o) o.asked =
    ap (λ (m : Option ℕ). term (counted o) (if is_some m then 0 else o.asked)) (ap (moved_of rs) number ∙ first) in
    let all = sum_but_one (λ y. term (counted y) (open_part (r ∷ rs) y)) (λ y. term (counted y) (open_part rs y)) os 1 r.number o h found others in
    omega (arith, all, after, before)

-- and adds what it moved to the moved shares
pub moved_with_reply : (counted : Order → Bool) (os : List Order) (rs : List Reply) (r : Reply) (o : Order) → IsNumbered 1 os
    → order_of os r.number ≡ Some o → moved_of rs r.number ≡ None
    → sum_by (λ (y : Order). if counted y then moved_part (r ∷ rs) y else 0) os
    ≡ sum_by (λ (y : Order). if counted y then moved_part rs y else 0) os + (if counted o then r.moved else 0)
moved_with_reply counted os rs r o h found first =
    let number = order_of_number os r.number o found in
    let others : (y : Order) → (y.number ≡ r.number → ⊥) → term (counted y) (moved_part (r ∷ rs) y) ≡ term (counted y) (moved_part rs y) =
    λ y ne. ap (λ (m : Option ℕ). term (counted y) (unwrap_or m 0)) (moved_of_other r rs y.number (λ e. ne (sym e))) in
    let after : term (counted o) (moved_part (r ∷ rs) o) ≡ term (counted o) r.moved =
    ap (λ (m : Option ℕ). term (counted o) (unwrap_or m 0)) (moved_of_same r rs o.number (sym number)) in
    let before : term (counted o) (moved_part rs o) ≡ 0 =
    ap (λ (m : Option ℕ). term (counted o) (unwrap_or m 0)) (ap (moved_of rs) number ∙ first) ∙ nothing_either (counted o) 0 refl in
    let all = sum_but_one (λ y. term (counted y) (moved_part (r ∷ rs) y)) (λ y. term (counted y) (moved_part rs y)) os 1 r.number o h found others in
    omega (arith, all, after, before)

-- the same of the orders of a kind, a member and an issue
pub open_sum-with_reply : (os : List Order) (rs : List Reply) (r : Reply) (o : Order) (kind : MoveKind) (member issue : ℕ) → IsNumbered 1 os
    → order_of os r.number ≡ Some o → moved_of rs r.number ≡ None
    → open_sum os (r ∷ rs) kind member issue + (if is_of kind member issue o then o.asked else 0) ≡ open_sum os rs kind member issue
unfolding open_sum
open_sum-with_reply os rs r o kind member issue h found first = open_with_reply (is_of kind member issue) os rs r o h found first

pub moved_sum-with_reply : (os : List Order) (rs : List Reply) (r : Reply) (o : Order) (kind : MoveKind) (member issue : ℕ) → IsNumbered 1 os
    → order_of os r.number ≡ Some o → moved_of rs r.number ≡ None
    → moved_sum os (r ∷ rs) kind member issue ≡ moved_sum os rs kind member issue + (if is_of kind member issue o then r.moved else 0)
unfolding moved_sum
moved_sum-with_reply os rs r o kind member issue h found first = moved_with_reply (is_of kind member issue) os rs r o h found first

-- the open shares of two lists of orders
pub open_sum-append : (os more : List Order) (rs : List Reply) (kind : MoveKind) (member issue : ℕ)
    → open_sum (os ++ more) rs kind member issue ≡ open_sum os rs kind member issue + open_sum more rs kind member issue
unfolding open_sum
open_sum-append os more rs kind member issue = sum_by-append (λ (o : Order). if is_of kind member issue o then open_part rs o else 0) os more

-- new orders are open with all that they ask for, whichever of them are counted
pub open_new : (counted : Order → Bool) (n : ℕ) (cycle : Option CycleId) (asks : List Ask) (rs : List Reply) → ((j : ℕ) → n ≤ j → moved_of rs j ≡ None)
    → sum_by (λ (o : Order). if counted o then open_part rs o else 0) (numbered n cycle asks) ≡ sum_by (λ (o : Order). if counted o then o.asked else 0) (numbered n cycle asks)
open_new counted n cycle asks rs new =
    sum_same_from (λ (o : Order). if counted o then open_part rs o else 0) (λ (o : Order). if counted o then o.asked else 0)
    (numbered n cycle asks) n (IsNumbered-numbered n cycle asks)
    (λ o le. ap (λ (m : Option ℕ). term (counted o) (if is_some m then 0 else o.asked)) (new o.number le))

pub open_sum_new : (n : ℕ) (cycle : Option CycleId) (asks : List Ask) (rs : List Reply) (kind : MoveKind) (member issue : ℕ) → ((j : ℕ) → n ≤ j → moved_of rs j ≡ None)
    → open_sum (numbered n cycle asks) rs kind member issue ≡ sum_by (λ (o : Order). if is_of kind member issue o then o.asked else 0) (numbered n cycle asks)
unfolding open_sum
open_sum_new n cycle asks rs kind member issue new = open_new (is_of kind member issue) n cycle asks rs new

-- and moved nothing, whichever of them are counted
pub moved_new : (counted : Order → Bool) (n : ℕ) (cycle : Option CycleId) (asks : List Ask) (rs : List Reply) → ((j : ℕ) → n ≤ j → moved_of rs j ≡ None)
    → sum_by (λ (o : Order). if counted o then moved_part rs o else 0) (numbered n cycle asks) ≡ 0
moved_new counted n cycle [] rs none = refl
moved_new counted n cycle (a ∷ asks) rs none =
    let o : Order = order_from n cycle a in
    let rest = moved_new counted (suc n) cycle asks rs (λ j le. none j (omega arith)) in
    let part : moved_part rs o ≡ 0 = rw (none n (omega arith)) refl in
    let here = nothing_either (counted o) (moved_part rs o) part in
    omega (arith, sum_by-cons (λ (x : Order). if counted x then moved_part rs x else 0) o (numbered (suc n) cycle asks), rest, here)

-- a confirmed order moved, and an unconfirmed one asks for, no more than it asked for
pub parts_le_asked : (os : List Order) (rs : List Reply) (o : Order) → AreKnown os rs → order_of os o.number ≡ Some o
    → moved_part rs o + open_part rs o ≤ o.asked
parts_le_asked os rs o known found = by_moved (moved_of rs o.number) refl
  where
    by_moved : (m : Option ℕ) → moved_of rs o.number ≡ m → unwrap_or m 0 + (if is_some m then 0 else o.asked) ≤ o.asked
    by_moved None e = omega arith
    by_moved (Some k) e = let within = moved_le_asked os rs o.number k o known found e in omega arith

-- Orders that are numbered in turn: look-ups by number, and sums over the orders.
use Rattle.std.proofs.Common.{◌≡◌, ℕ, suc, zero, ◌+◌, ◌<◌, ◌≤◌, eqb, List, [], ◌∷◌, ◌++◌, length, Some, None, sym, refl, ap, ◌∙◌, subst, arith, length-take, inl, inr, get_or, take, append_assoc}
use Rattle.std.specs.Prelude.{Option, sum_by, slice_get}
use Rattle.std.proofs.lemmas.Bool.{cases_eq, eq-eqb, ne_eqb, cond-true, cond-false}
use Rattle.std.proofs.lemmas.Option.{none-some, same_Some, slice_get_within}
use Rattle.std.proofs.lemmas.List.{take_more}
use Rattle.std.proofs.lemmas.List.Sums.{sum_by-cons}
use Rattle.cns_ids.specs.declared.cycle.CycleId.{CycleId}
use Rattle.cns_movements.specs.declared.order.Order.{Order}
use Rattle.cns_movements.specs.declared.order.Ask.{Ask}
use Rattle.cns_movements.specs.Order.{order_from, order_of, numbered, IsNumbered}

-- the first order is found under its number
pub order_of_same : (x : Order) (xs : List Order) (n : ℕ) → x.number ≡ n → order_of (x ∷ xs) n ≡ Some x
order_of_same x xs n e = cond-true (eqb x.number n) (Some x) (order_of xs n) (eq-eqb x.number n e)

-- under another number the rest decides
pub order_of_other : (x : Order) (xs : List Order) (n : ℕ) → (x.number ≡ n → ⊥) → order_of (x ∷ xs) n ≡ order_of xs n
order_of_other x xs n ne = cond-false (eqb x.number n) (Some x) (order_of xs n) (ne_eqb x.number n ne)

-- an order that is found stays found as the list grows
pub order_of-append : (os more : List Order) (n : ℕ) (o : Order) → order_of os n ≡ Some o → order_of (os ++ more) n ≡ Some o
order_of-append [] more n o h = absurd (none-some o h)
order_of-append (x ∷ xs) more n o h =
    elim (cases_eq x.number n) [
      | inl e ↦ order_of_same x (xs ++ more) n e ∙ sym (order_of_same x xs n e) ∙ h
      | inr ne ↦ order_of_other x (xs ++ more) n ne ∙ order_of-append xs more n o (sym (order_of_other x xs n ne) ∙ h)
    ]

-- a number that is not found in a list is looked for in what follows
pub order_of-append_none : (os more : List Order) (n : ℕ) → order_of os n ≡ None → order_of (os ++ more) n ≡ order_of more n
order_of-append_none [] more n h = refl
order_of-append_none (x ∷ xs) more n h =
    elim (cases_eq x.number n) [
      | inl e ↦ absurd (none-some x (sym h ∙ order_of_same x xs n e))
      | inr ne ↦ order_of_other x (xs ++ more) n ne ∙ order_of-append_none xs more n (sym (order_of_other x xs n ne) ∙ h)
    ]

-- a found order has the number
pub order_of_number : (os : List Order) (n : ℕ) (o : Order) → order_of os n ≡ Some o → o.number ≡ n
order_of_number [] n o h = absurd (none-some o h)
order_of_number (x ∷ xs) n o h =
    elim (cases_eq x.number n) [
      | inl e ↦ ap (λ (y : Order). y.number) (sym (same_Some x o (sym (order_of_same x xs n e) ∙ h))) ∙ e
      | inr ne ↦ order_of_number xs n o (sym (order_of_other x xs n ne) ∙ h)
    ]

-- no number below the first is found
pub order_of_below : (os : List Order) (k n : ℕ) → IsNumbered k os → n < k → order_of os n ≡ None
order_of_below [] k n h l = refl
order_of_below (x ∷ xs) k n h l =
    order_of_other x xs n (λ e. let same = h.0 in omega arith) ∙ order_of_below xs (suc k) n h.1 (omega arith)

-- nor one past the last
pub order_of_above : (os : List Order) (k n : ℕ) → IsNumbered k os → k + length os ≤ n → order_of os n ≡ None
order_of_above [] k n h l = refl
order_of_above (x ∷ xs) k n h l =
    order_of_other x xs n (λ e. let same = h.0 in omega arith) ∙ order_of_above xs (suc k) n h.1 (omega arith)

-- the order of a number stands in the place that the numbers from the first on give it
pub order_of-slice_get : (os : List Order) (k n i : ℕ) → IsNumbered k os → n ≡ k + i → order_of os n ≡ slice_get os i
order_of-slice_get [] k n i h e = refl
order_of-slice_get (x ∷ xs) k n zero h e = order_of_same x xs n (let same = h.0 in omega arith)
order_of-slice_get (x ∷ xs) k n (suc i) h e =
    order_of_other x xs n (λ z. let same = h.0 in omega arith) ∙ order_of-slice_get xs (suc k) n i h.1 (omega arith)

-- the same for numbers from 1 on
pub order_at : (os : List Order) (n i : ℕ) → IsNumbered 1 os → i + 1 ≡ n → slice_get os i ≡ order_of os n
order_at os n i h e = sym (order_of-slice_get os 1 n i h (omega arith))

-- the place of an order that is found is one of the list's
pub place_of_found : (os : List Order) (n i : ℕ) (o : Order) → IsNumbered 1 os → i + 1 ≡ n → order_of os n ≡ Some o → i < length os
place_of_found os n i o h e found = slice_get_within os i o (order_at os n i h e ∙ found)

-- asks that are numbered from k on have the numbers from k on
pub IsNumbered-numbered : (k : ℕ) (cycle : Option CycleId) (asks : List Ask) → IsNumbered k (numbered k cycle asks)
IsNumbered-numbered k cycle [] = tt
IsNumbered-numbered k cycle (a ∷ asks) = (refl, IsNumbered-numbered (suc k) cycle asks)

-- orders that go on with the next number are numbered as one list
pub IsNumbered-append : (os more : List Order) (k n : ℕ) → n ≡ k + length os → IsNumbered k os → IsNumbered n more → IsNumbered k (os ++ more)
IsNumbered-append [] more k n e h m = let same : n ≡ k = omega arith in subst (λ (j : ℕ). IsNumbered j more) same m
IsNumbered-append (x ∷ xs) more k n e h m = (h.0, IsNumbered-append xs more (suc k) n (omega arith) h.1 m)

-- there are as many orders as asks
pub length-numbered : (n : ℕ) (cycle : Option CycleId) (asks : List Ask) → length (numbered n cycle asks) ≡ length asks
length-numbered n cycle [] = refl
length-numbered n cycle (a ∷ asks) = ap suc (length-numbered (suc n) cycle asks)

-- asks in a row are numbered in a row
pub numbered-append : (n : ℕ) (cycle : Option CycleId) (xs ys : List Ask) → numbered n cycle (xs ++ ys) ≡ numbered n cycle xs ++ numbered (n + length xs) cycle ys
numbered-append n cycle [] ys = let e : n ≡ n + 0 = omega arith in ap (λ (k : ℕ). numbered k cycle ys) e
numbered-append n cycle (x ∷ xs) ys =
    let o : Order = order_from n cycle x in
    let e : suc n + length xs ≡ n + suc (length xs) = omega arith in
    ap (λ (l : List Order). o ∷ l) (numbered-append (suc n) cycle xs ys ∙ ap (λ (k : ℕ). numbered (suc n) cycle xs ++ numbered k cycle ys) e)

-- one more ask, as a loop that numbers asks takes them
pub numbered_more : (cycle : Option CycleId) (asks : List Ask) (k i n : ℕ) (x : Ask) → i < length asks → x ≡ get_or asks i x → n ≡ k + i
    → numbered k cycle (take i asks) ++ (order_from n cycle x ∷ []) ≡ numbered k cycle (take (i + 1) asks)
numbered_more cycle asks k i n x within is e =
    let number : k + length (take i asks) ≡ n = omega (arith, length-take i asks) in
    let next : take (i + 1) asks ≡ take i asks ++ x ∷ [] = take_more asks i x within ∙ ap (λ (y : Ask). take i asks ++ y ∷ []) (sym is) in
    sym (ap (numbered k cycle) next ∙ numbered-append k cycle (take i asks) (x ∷ []) ∙ ap (λ (j : ℕ). numbered k cycle (take i asks) ++ numbered j cycle (x ∷ [])) number)

-- the same behind orders that stand already
pub numbered_push : (os : List Order) (cycle : Option CycleId) (asks : List Ask) (i : ℕ) (x : Ask) (n : ℕ) → i < length asks → x ≡ get_or asks i x → n ≡ length os + i + 1
    → (os ++ numbered (length os + 1) cycle (take i asks)) ++ (order_from n cycle x ∷ [])
    ≡ os ++ numbered (length os + 1) cycle (take (i + 1) asks)
numbered_push os cycle asks i x n within is e =
    append_assoc os (numbered (length os + 1) cycle (take i asks)) (order_from n cycle x ∷ [])
    ∙ ap (λ (l : List Order). os ++ l) (numbered_more cycle asks (length os + 1) i n x within is (omega arith))

-- two sums over numbered orders are equal where the terms of the numbers from k on are
pub sum_same_from : (f g : Order → ℕ) (os : List Order) (k : ℕ) → IsNumbered k os → ((o : Order) → k ≤ o.number → f o ≡ g o) → sum_by f os ≡ sum_by g os
sum_same_from f g [] k h s = refl
sum_same_from f g (x ∷ xs) k h s =
    let here : f x ≡ g x = s x (let same = h.0 in omega arith) in
    let rest : sum_by f xs ≡ sum_by g xs = sum_same_from f g xs (suc k) h.1 (λ o l. s o (omega arith)) in
    omega (arith, sum_by-cons f x xs, sum_by-cons g x xs)

-- two sums whose terms differ at one number alone
pub sum_but_one : (f g : Order → ℕ) (os : List Order) (k n : ℕ) (x : Order) → IsNumbered k os → order_of os n ≡ Some x
    → ((o : Order) → (o.number ≡ n → ⊥) → f o ≡ g o) → sum_by f os + g x ≡ sum_by g os + f x
sum_but_one f g [] k n x h found same = absurd (none-some x found)
sum_but_one f g (o ∷ os) k n x h found same =
    elim (cases_eq o.number n) [
      | inl e ↦
          let is : o ≡ x = same_Some o x (sym (order_of_same o os n e) ∙ found) in
          let rest : sum_by f os ≡ sum_by g os = sum_same_from f g os (suc k) h.1 (λ y l. same y (λ z. let first = h.0 in omega arith)) in
          let fx : f o ≡ f x = ap f is in
          let gx : g o ≡ g x = ap g is in
          omega (arith, sum_by-cons f o os, sum_by-cons g o os)
      | inr ne ↦
          let rest : sum_by f os + g x ≡ sum_by g os + f x =
          sum_but_one f g os (suc k) n x h.1 (sym (order_of_other o os n ne) ∙ found) same in
          let here : f o ≡ g o = same o ne in
          omega (arith, sum_by-cons f o os, sum_by-cons g o os)
    ]

-- each order of a numbered list is the one of its number, so a sum of smaller terms at found orders is smaller
pub sum_le_found : (f g : Order → ℕ) (os : List Order) (k : ℕ) → IsNumbered k os
    → ((o : Order) → order_of os o.number ≡ Some o → f o ≤ g o) → sum_by f os ≤ sum_by g os
sum_le_found f g [] k h le = omega arith
sum_le_found f g (x ∷ xs) k h le =
    let here : f x ≤ g x = le x (order_of_same x xs x.number refl) in
    let rest : sum_by f xs ≤ sum_by g xs =
    sum_le_found f g xs (suc k) h.1 (λ o found. le o
    (order_of_other x xs o.number (λ e. let first = h.0 in
    let none : order_of xs o.number ≡ None = order_of_below xs (suc k) o.number h.1 (omega arith) in
    none-some o (sym none ∙ found)) ∙ found)) in
    omega (arith, sum_by-cons f x xs, sum_by-cons g x xs)

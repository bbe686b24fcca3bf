-- What orders come to over all members, against all that was traded.
use Rattle.std.proofs.Common.{◌≡◌, ◌≤◌, ◌<◌, ◌+◌, ℕ, zero, suc, List, [], ◌∷◌, None, Bool, refl, arith, inl, inr}
use Rattle.std.specs.Prelude.{◌&&◌, ◌==◌, sum_by, if◌then◌else◌}
use Rattle.std.proofs.lemmas.Bool.{cases_eq, cases_lt, eq-eqb, ne_eqb}
use Rattle.std.proofs.lemmas.List.Sums.{sum_by-cons, sum_by-le, sum_by-le-sum_by, sum_by_push}
use Rattle.cns_ids.proofs.ListLemmas.{sum_by-plus}
use Rattle.cns_trades.specs.declared.trade.Trade.{Trade}
use Rattle.cns_netting.specs.History.{due, sold}
use Rattle.cns_netting.specs.Book.{IsBook}
use Rattle.cns_netting.specs.Positions.{places_below}
use Rattle.cns_netting.specs.declared.entry.NetEntry.{NetEntry}
use Rattle.cns_netting.proofs.TradeLemmas.{accepted-most}
use Rattle.cns_movements.specs.declared.order.Order.{Order}

-- the sum of a number for each member below n
abbrev below : ℕ → (ℕ → ℕ) → ℕ
below n g = sum_by g (places_below n)

-- shares that are one member's alone are counted once where it is below n, and never above that
below-none : (n m q : ℕ) → n ≤ m → below n (λ k. if m == k then q else 0) ≡ 0
unfolding places_below
below-none zero m q le = refl
below-none (suc n) m q le =
    let other = ne_eqb m n (λ e. omega arith) in
    grind (arith, other, sum_by_push (λ (k : ℕ). if m == k then q else 0) (places_below n) n, below-none n m q (omega arith))

below-one : (n m q : ℕ) → m < n → below n (λ k. if m == k then q else 0) ≡ q
unfolding places_below
below-one zero m q less = absurd (omega arith)
below-one (suc n) m q less =
    let last = sum_by_push (λ (k : ℕ). if m == k then q else 0) (places_below n) n in
    elim (cases_eq m n) [
      | inl e ↦ let here = eq-eqb m n e in grind (arith, here, last, below-none n m q (omega arith))
      | inr ne ↦ let other = ne_eqb m n ne in grind (arith, other, last, below-one n m q (omega arith))
    ]

below-alone : (n m q : ℕ) → below n (λ k. if m == k then q else 0) ≤ q
below-alone n m q = elim (cases_lt m n) [ inl less ↦ omega (arith, below-one n m q less) | inr from ↦ omega (arith, below-none n m q from) ]

-- a number above each order's member
above : List Order → ℕ
above [] = 0
above (o ∷ orders) = o.member + 1 + above orders

-- the part of a member in a sum over orders
abbrev part_of : (Order → ℕ) → List Order → ℕ → ℕ
part_of f orders member = sum_by (λ (o : Order). if o.member == member then f o else 0) orders

-- a sum over orders is the sum of its members' parts
parts_in_all : (orders : List Order) (f : Order → ℕ) (n : ℕ) → above orders ≤ n → sum_by f orders ≡ below n (part_of f orders)
unfolding above
parts_in_all [] f n le = omega (arith, sum_by-le (part_of f []) 0 (places_below n) (λ i k less. omega arith))
parts_in_all (o ∷ orders) f n le =
    let parts =
    sum_by-plus (λ k. if o.member == k then f o else 0) (part_of f orders) (part_of f (o ∷ orders))
    (λ k. sum_by-cons (λ (x : Order). if x.member == k then f x else 0) o orders) (places_below n) in
    let one = below-one n o.member (f o) (omega arith) in
    omega (arith, sum_by-cons f o orders, parts, one, parts_in_all orders f n (omega arith))

-- the members below n sold in an issue no more together than was traded
sold_below : (trades : List Trade) (issue n : ℕ) → below n (λ k. sold trades k issue) ≤ sum_by (λ (t : Trade). t.quantity) trades
unfolding sold
sold_below [] issue n = omega (arith, sum_by-le (λ k. sold [] k issue) 0 (places_below n) (λ i k less. omega arith))
sold_below (t ∷ trades) issue n =
    let share : ℕ → ℕ = λ k. if (t.seller == k) && (t.issue == issue) then t.quantity else 0 in
    let parts =
    sum_by-plus share (λ k. sold trades k issue) (λ k. sold (t ∷ trades) k issue)
    (λ k. sum_by-cons (λ (u : Trade). if (u.seller == k) && (u.issue == issue) then u.quantity else 0) t trades) (places_below n) in
    let one = sum_by-le-sum_by share (λ k. if t.seller == k then t.quantity else 0) (places_below n) (λ k. less (t.seller == k) (t.issue == issue)) in
    omega (arith, parts, one, below-alone n t.seller t.quantity, sum_by-cons (λ (u : Trade). u.quantity) t trades, sold_below trades issue n)
  where
    less : (a b : Bool) → (if a && b then t.quantity else 0) ≤ (if a then t.quantity else 0)
    less a b = grind arith

-- a sum over orders, whose part of each member is at most what that member sold in the issue, is at most all that was traded
pub moved_total : (trades : List Trade) (orders : List Order) (f : Order → ℕ) (issue : ℕ)
    → ((member : ℕ) → sum_by (λ (o : Order). if o.member == member then f o else 0) orders ≤ sold trades member issue)
    → sum_by f orders ≤ sum_by (λ (t : Trade). t.quantity) trades
moved_total trades orders f issue each =
    let n : ℕ = above orders in
    omega (arith, parts_in_all orders f n (omega arith), sum_by-le-sum_by (part_of f orders) (λ k. sold trades k issue) (places_below n) each, sold_below trades issue n)

-- the due trades of a book have at most 10^18 shares in all
pub sold_all : (h : List NetEntry) → IsBook h → sum_by (λ (t : Trade). t.quantity) (due h) ≤ 1000000000000000000
sold_all h book = omega (arith, accepted-most (λ (t : Trade). t.quantity) (λ t. omega arith) None h book.quantities, book.few)

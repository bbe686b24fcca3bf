-- Rows in the order of their holdings are known by the sums over them.
use Rattle.std.proofs.Common.{◌≡◌, ◌≤◌, ◌<◌, ℕ, List, [], ◌∷◌, length, get_or, Option, None, Some, Bool, true, false, refl, sym, ap, ◌∙◌, arith, subst, inl, inr, Less, ◌⊎◌}
use Rattle.std.specs.Prelude.{◌&&◌, ◌==◌, AllPairs, sum_by, if◌then◌else◌}
use Rattle.std.specs.List.{AllByRecursion}
use Rattle.std.specs.Ordering.{int_eq, is_lt}
use Rattle.std.proofs.lemmas.Bool.{and_parts, eqb-true, true≢false}
use Rattle.std.proofs.lemmas.Bool.Decides.{Decides-int_eq, nat_tests}
use Rattle.std.proofs.lemmas.List.Elements.{All-weaker, recursion_from_All}
use Rattle.std.proofs.lemmas.List.Sums.{sum_by-cons}
use Rattle.cns_ids.specs.Holding.{holding_cmp}
use Rattle.cns_ids.specs.declared.holding.Holding.{Holding}
use Rattle.cns_ids.proofs.ListLemmas.{AllPairs-head, AllPairs-tail}
use Rattle.cns_netting.specs.Positions.{AreInOrder, holding_of, in_issue, IsNotBefore}
use Rattle.cns_netting.specs.declared.position.PositionRow.{PositionRow}

-- a row's holding stands before that of another; rows that rise, of which each one's stands before those of all later ones
abbrev pub IsBefore : PositionRow → PositionRow → Type 0
IsBefore row later = holding_cmp (holding_of row) (holding_of later) ≡ Less

abbrev pub AreRising : List PositionRow → Type 0
AreRising = AllPairs IsBefore

-- a sort leaves rows in order
pub in_order : (xs : List PositionRow)
    → ((i j : ℕ) (d : PositionRow) → i ≤ j → j < length xs → is_lt (holding_cmp (holding_of (get_or xs j d)) (holding_of (get_or xs i d))) ≡ false)
    → AreInOrder xs
in_order xs far i j d less below e = true≢false (sym (ap is_lt e) ∙ far i j d (omega (arith, less)) below)

-- ---- rows of an issue alone

pub in_issue-none : (issue : Option ℕ) (k : Holding) → in_issue issue k None ≡ None
in_issue-none None k = refl
in_issue-none (Some i) k = by (k.issue == i)
  where
    by : (b : Bool) → ◌≡◌ {A = Option PositionRow} (if b then None else None) None
    by true = refl
    by false = refl

-- a row stays its holding's own
pub in_issue-holding : (issue : Option ℕ) (k : Holding) (o : Option PositionRow) (row : PositionRow) → (o ≡ Some row → holding_of row ≡ k) → in_issue issue k o ≡ Some row → holding_of row ≡ k
in_issue-holding None k o row own e = own e
in_issue-holding (Some i) k o row own e = by (k.issue == i) e
  where
    by : (b : Bool) → (if b then o else None) ≡ Some row → holding_of row ≡ k
    by true g = own g
    by false g = cc g

-- ---- one row's count

row_eq : PositionRow → PositionRow → Bool
row_eq a b = (a.issue == b.issue) && ((a.member == b.member) && int_eq a.position b.position)

same_row : (a b : PositionRow) → row_eq a b ≡ true → a ≡ b
unfolding row_eq
same_row a b e =
    let first = and_parts _ _ e in
    let rest = and_parts _ _ first.1 in
    let issue : a.issue ≡ b.issue = eqb-true _ _ first.0 in
    let member : a.member ≡ b.member = eqb-true _ _ rest.0 in
    let position : a.position ≡ b.position = (Decides-int_eq a.position b.position).0 rest.1 in
    λ i. record { issue = issue i; member = member i; position = position i }

if_row : PositionRow → PositionRow → ℕ
if_row x r = if row_eq x r then 1 else 0

counts_itself : (x : PositionRow) → if_row x x ≡ 1
unfolding if_row row_eq
counts_itself x = Prim.rw ((Decides-int_eq x.position x.position).1 refl) (grind (arith, nat_tests))

-- what holds of each row holds of one that is counted
from_count : (P : PositionRow → Type 0) (x : PositionRow) (ys : List PositionRow) → AllByRecursion P ys → 0 < sum_by (if_row x) ys → P x
unfolding if_row
from_count P x [] all some = absurd (omega arith)
from_count P x (y ∷ ys) all some = by (row_eq x y) refl (from_count P x ys all.1)
  where
    by : (b : Bool) → row_eq x y ≡ b → (0 < sum_by (if_row x) ys → P x) → P x
    by true e rest = subst P (sym (same_row x y e)) all.0
    by false e rest = rest (omega (arith, sum_by-cons (if_row x) y ys, none))
      where
        none : ◌≡◌ {A = ℕ} (if row_eq x y then 1 else 0) 0
        none = Prim.rw e refl

-- ---- the rows

first_same : (x y : PositionRow) (xs ys : List PositionRow) → AreInOrder (x ∷ xs) → AreRising (y ∷ ys)
    → ((f : PositionRow → ℕ) → sum_by f (x ∷ xs) ≡ sum_by f (y ∷ ys)) → x ≡ y
first_same x y xs ys order rising sums =
    elim x_there [
      | inl e ↦ e
      | inr less ↦ absurd (y_there less)
    ]
  where
    x_there : (x ≡ y) ⊎ (holding_cmp (holding_of y) (holding_of x) ≡ Less)
    x_there =
        from_count (λ r. (r ≡ y) ⊎ (holding_cmp (holding_of y) (holding_of r) ≡ Less)) x (y ∷ ys)
        (inl refl, recursion_from_All _ ys (All-weaker (λ (r : PositionRow). holding_cmp (holding_of y) (holding_of r) ≡ Less) (λ (r : PositionRow). (r ≡ y) ⊎ (holding_cmp (holding_of y) (holding_of r) ≡ Less)) (λ r less. inr less) ys (AllPairs-head IsBefore y ys rising)))
        (omega (arith, sums (if_row x), sum_by-cons (if_row x) x xs, counts_itself x))

    y_there : holding_cmp (holding_of y) (holding_of x) ≡ Less → ⊥
    y_there =
        from_count (λ r. holding_cmp (holding_of r) (holding_of x) ≡ Less → ⊥) y (x ∷ xs)
        (itself, recursion_from_All _ xs (AllPairs-head IsNotBefore x xs order))
        (omega (arith, sums (if_row y), sum_by-cons (if_row y) y ys, counts_itself y))
      where
        itself : holding_cmp (holding_of x) (holding_of x) ≡ Less → ⊥
        itself e = grind (arith, nat_tests)

-- rows in order that have the sums of rising ones are those
pub same_rows : (xs ys : List PositionRow) → AreInOrder xs → AreRising ys → ((f : PositionRow → ℕ) → sum_by f xs ≡ sum_by f ys) → xs ≡ ys
same_rows [] [] order rising sums = refl
same_rows [] (y ∷ ys) order rising sums = absurd (omega (arith, sums (λ (r : PositionRow). 1), sum_by-cons (λ (r : PositionRow). 1) y ys))
same_rows (x ∷ xs) [] order rising sums = absurd (omega (arith, sums (λ (r : PositionRow). 1), sum_by-cons (λ (r : PositionRow). 1) x xs))
same_rows (x ∷ xs) (y ∷ ys) order rising sums =
    let first = first_same x y xs ys order rising sums in
    let rest = same_rows xs ys (AllPairs-tail IsNotBefore x xs order) (AllPairs-tail IsBefore y ys rising) (λ f. omega (arith, sums f, sum_by-cons f x xs, sum_by-cons f y ys, ap f first)) in
    ap (λ r. r ∷ xs) first ∙ ap (λ l. y ∷ l) rest

-- Sums over a list of which one element is replaced, or has all of another sum.
use Rattle.std.proofs.Common.{◌≡◌, ℕ, zero, suc, ◌+◌, ◌≤◌, List, [], ◌∷◌, ◌++◌, length, set, sym, refl, ap, inl, inr, arith, ◌⊎◌, ⊎_elim}
use Rattle.std.specs.Prelude.{sum_by}
use Rattle.std.proofs.lemmas.List.Sums.{sum_by-cons, sum_by_push}
use mathlib.Core.Option.{some, some-injective, some-ne-none}
use lib.ListN.{get_elem?}

module _ {X : Type 0} (f : X → ℕ) where
  -- an element is replaced
  pub sum_by_put : (xs : List X) (i : ℕ) (x y : X) → get_elem? xs i ≡ some x → sum_by f (set xs i y) + f x ≡ sum_by f xs + f y
  sum_by_put [] i x y at = absurd (some-ne-none x (sym at))
  sum_by_put (z ∷ zs) zero x y at = let same : f z ≡ f x = ap f (some-injective z x at) in omega (arith, sum_by-cons f z zs, sum_by-cons f y zs)
  sum_by_put (z ∷ zs) (suc i) x y at = let rest = sum_by_put zs i x y at in omega (arith, sum_by-cons f z zs, sum_by-cons f z (set zs i y))

  -- no element is more than the sum
  pub part-le-sum_by : (xs : List X) (i : ℕ) (x : X) → get_elem? xs i ≡ some x → f x ≤ sum_by f xs
  part-le-sum_by [] i x at = absurd (some-ne-none x (sym at))
  part-le-sum_by (z ∷ zs) zero x at = let same : f z ≡ f x = ap f (some-injective z x at) in omega (arith, sum_by-cons f z zs)
  part-le-sum_by (z ∷ zs) (suc i) x at = let rest = part-le-sum_by zs i x at in omega (arith, sum_by-cons f z zs)

  -- an element is cut in two, the second part at the end
  pub sum_by_cut : (xs : List X) (i : ℕ) (x left right : X) → get_elem? xs i ≡ some x → f left + f right ≡ f x → sum_by f (set xs i left ++ right ∷ []) ≡ sum_by f xs
  sum_by_cut xs i x left right at parts = omega (arith, sum_by_put xs i x left at, sum_by_push f (set xs i left) right)

  -- one element takes in another, which becomes nothing
  pub sum_by_merged : (xs : List X) (i j : ℕ) (x y both nothing : X) → f nothing ≡ 0 → get_elem? xs i ≡ some x → get_elem? (set xs i both) j ≡ some y → f both ≡ f x + f y
      → sum_by f (set (set xs i both) j nothing) ≡ sum_by f xs
  sum_by_merged xs i j x y both nothing none at also parts = omega (arith, sum_by_put xs i x both at, sum_by_put (set xs i both) j y nothing also)

module _ {X : Type 0} (f g : X → ℕ) where
  -- where g sums to nothing, and f is nothing where g is, f sums to nothing
  none_left : (xs : List X) → ((i : ℕ) (x : X) → get_elem? xs i ≡ some x → g x ≡ 0 → f x ≡ 0) → sum_by g xs ≡ 0 → sum_by f xs ≡ 0
  none_left [] with none = refl
  none_left (z ∷ zs) with none =
      let first : g z ≡ 0 = omega (arith, sum_by-cons g z zs) in
      let here : f z ≡ 0 = with zero z refl first in
      let rest = none_left zs (λ i x at. with (suc i) x at) (omega (arith, sum_by-cons g z zs)) in
      omega (arith, sum_by-cons f z zs)

  -- where one element has all of g, it has all of f
  pub sum_by_alone : (xs : List X) (i : ℕ) (x : X) → get_elem? xs i ≡ some x → ((i : ℕ) (x : X) → get_elem? xs i ≡ some x → g x ≡ 0 → f x ≡ 0) → sum_by g xs ≡ g x → sum_by f xs ≡ f x
  sum_by_alone [] i x at with all = absurd (some-ne-none x (sym at))
  sum_by_alone (z ∷ zs) zero x at with all =
      let same : g z ≡ g x = ap g (some-injective z x at) in
      let here : f z ≡ f x = ap f (some-injective z x at) in
      let rest = none_left zs (λ i x at. with (suc i) x at) (omega (arith, sum_by-cons g z zs)) in
      omega (arith, sum_by-cons f z zs)
  sum_by_alone (z ∷ zs) (suc i) x at with all =
      let first : g z ≡ 0 = omega (arith, sum_by-cons g z zs, part-le-sum_by g zs i x at) in
      let here : f z ≡ 0 = with zero z refl first in
      let rest = sum_by_alone zs i x at (λ i x at. with (suc i) x at) (omega (arith, sum_by-cons g z zs)) in
      omega (arith, sum_by-cons f z zs)

-- what stands in a list with one more element
pub get_elem?_push : {X : Type 0} (xs : List X) (last x : X) (i : ℕ) → get_elem? (xs ++ last ∷ []) i ≡ some x → (get_elem? xs i ≡ some x) ⊎ ((i ≡ length xs) × (last ≡ x))
get_elem?_push [] last x zero at = inr (refl, some-injective last x at)
get_elem?_push [] last x (suc i) at = absurd (some-ne-none x (sym at))
get_elem?_push (z ∷ zs) last x zero at = inl at
get_elem?_push (z ∷ zs) last x (suc i) at = ⊎_elim (λ before. inl before) (λ end. inr (ap suc end.0, end.1)) (get_elem?_push zs last x i at)

use Rattle.std.proofs.Common.{◌≡◌, ◌∙◌, ◌++◌, ◌∷◌, [], List, ℕ, arith, length, map, refl, sym}
use Rattle.std.specs.List.Sorted.{IsPermutation}
use Rattle.std.proofs.lemmas.Bool.{eqb-true}
use Rattle.std.proofs.lemmas.List.Sorted.{IsPermutation-append_right, IsPermutation-map, IsPermutation-trans}
use Rattle.std.proofs.lemmas.Result.{IfOk-weaker}
use Rattle.cns_netting.specs.Positions.{placed_at, places_below}
use Rattle.cns_netting.proofs.positions.all_places.Goals as goal

-- the places in numbers once these are sorted
once_sorted : (n : ℕ) (order placed sorted numbers : List ℕ) → IsPermutation (places_below n) (order ++ map placed_at placed) → IsPermutation placed sorted → numbers ≡ sorted
    → IsPermutation (places_below n) (order ++ map placed_at numbers)
once_sorted n order placed sorted numbers each moved same =
    rw same (IsPermutation-trans _ _ _ each (IsPermutation-append_right order _ _ (IsPermutation-map placed_at placed sorted moved)))

no_places : (order : List ℕ) → length order ≡ 0 → order ≡ []
no_places [] none = refl
no_places (p ∷ ps) none = absurd (omega (arith, none))

pub returns-then-is_empty : goal.returns-then-is_empty
returns-then-is_empty c =
    let order = c.args.order.now in
    let none = no_places order (eqb-true _ 0 (sym c.is_empty.ensures ∙ c.if-is_empty.true)) in
    let each = once_sorted _ order _ _ _ (c.in_ok-behind.ensures.each order c.requires.each) c.sort_unstable.ensures.permutation c.as_slice.ensures.value in
    IfOk-weaker c.places_of.result _ _ (λ places is. rw is (rw none at each)) c.places_of.ensures

pub returns : goal.returns
returns c =
    let order = c.args.order.now in
    let each = once_sorted _ order _ _ _ (c.in_ok-behind.ensures.each order c.requires.each) c.sort_unstable.ensures.permutation c.as_slice-2.ensures.value in
    IfOk-weaker c.with_places.result _ _ (λ places moved. IsPermutation-trans _ _ _ each moved) c.with_places.ensures

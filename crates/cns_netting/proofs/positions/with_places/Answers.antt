use Rattle.std.proofs.Common.{◌≡◌, ◌<◌, ◌+◌, ◌++◌, ◌∷◌, [], ◌∙◌, List, ℕ, ap, get_or, length, map, subst, sym, take}
use Rattle.std.specs.List.Sorted.{IsPermutation}
use Rattle.std.proofs.lemmas.List.{append_assoc, map-append, take-append-drop, take_more}
use Rattle.std.proofs.lemmas.List.Sorted.{IsPermutation-middle, IsPermutation-push_more, IsPermutation-sym}
use Rattle.cns_netting.specs.Positions.{placed_at}
use Rattle.cns_netting.proofs.positions.with_places.Goals as goal

-- one more, put between what is left
one_more : (all done front behind : List ℕ) (one : ℕ) → IsPermutation all (done ++ (front ++ behind)) → IsPermutation (all ++ one ∷ []) (((done ++ front) ++ one ∷ []) ++ behind)
one_more all done front behind one moves =
    let put = IsPermutation-sym _ _ (IsPermutation-middle (done ++ front) one behind) in
    rw (append_assoc (done ++ front) (one ∷ []) behind)
    (IsPermutation-push_more all ((done ++ front) ++ behind) _ one (subst (IsPermutation all) (sym (append_assoc done front behind)) moves) put)

-- the place in one number more
places_more : (order numbers : List ℕ) (i : ℕ) → i < length numbers → order ++ map placed_at (take (i + 1) numbers) ≡ (order ++ map placed_at (take i numbers)) ++ placed_at (get_or numbers i 0) ∷ []
places_more order numbers i below =
    ap (λ (l : List ℕ). order ++ map placed_at l) (take_more numbers i 0 below)
    ∙ ap (λ (l : List ℕ). order ++ l) (map-append placed_at (take i numbers) (get_or numbers i 0 ∷ []))
    ∙ sym (append_assoc order (map placed_at (take i numbers)) (placed_at (get_or numbers i 0) ∷ []))

pub loop-one-preserved : goal.loop-one-preserved
loop-one-preserved c =
    let order = c.args.order.now in
    let numbers = c.args.placed.now in
    let i = c.loop-one.one-index in
    let done = c.loop-one.places.items in
    let front = c.split_at.result.0.now in
    let behind = c.split_at.result.1.now in
    let place = c.place_of-place.result in
    let left : front ++ behind ≡ c.loop-one.rest.now = rw (c.split_at.ensures.front, c.split_at.ensures.back) (take-append-drop _ c.loop-one.rest.now) in
    let moves = subst (λ (l : List ℕ). IsPermutation (order ++ map placed_at (take i numbers)) (done ++ l)) (sym left) c.loop-one.invariant in
    let put : c.push.new.self.items ≡ (done ++ front) ++ place ∷ [] = c.in_ok-push.ensures.items ∙ ap (λ (l : List ℕ). l ++ place ∷ []) c.in_ok-extend_from_slice.ensures.items in
    let is : place ≡ placed_at (get_or numbers i 0) = c.place_of-place.ensures in
    rw (put, places_more order numbers i c.loop-one-test.true, sym is) (one_more (order ++ map placed_at (take i numbers)) done front behind place moves)

use Rattle.std.proofs.Common.{◌≡◌, ◌++◌, ◌∷◌, [], ◌∙◌, List, ℕ, ap, sym, arith, map}
use Rattle.std.proofs.lemmas.List.{append_assoc, map-append}
use Rattle.cns_netting.specs.Positions.{placed_at}
use Rattle.cns_netting.proofs.PlaceLemmas.{place_more}
use Rattle.cns_netting.proofs.positions.placed_from.Goals as goal

-- one number more has one place more
one_more : (order old new : List ℕ) (placed place : ℕ) → new ≡ old ++ placed ∷ [] → placed_at placed ≡ place → order ++ map placed_at new ≡ (order ++ map placed_at old) ++ place ∷ []
one_more order old new placed place pushed is =
    ap (λ (l : List ℕ). order ++ map placed_at l) pushed ∙ ap (λ (l : List ℕ). order ++ l) (map-append placed_at old (placed ∷ []))
    ∙ sym (append_assoc order (map placed_at old) (placed_at placed ∷ [])) ∙ ap (λ n. (order ++ map placed_at old) ++ n ∷ []) is

pub loop-place-preserved : goal.loop-place-preserved
loop-place-preserved c =
    let before = c.loop-place.invariant in
    let pushed = c.push_reserved.ensures.items in
    record {
      each = λ order some.
          place_more c.loop-place.place (order ++ map placed_at c.loop-place.list.items) _ (one_more order c.loop-place.list.items _ c.placed.result c.loop-place.place pushed c.placed.ensures) (before.each order some);
      len = omega (arith, c.push_reserved.ensures.len, before.len);
      room = omega (arith, c.push_reserved.ensures.capacity, before.room);
    }

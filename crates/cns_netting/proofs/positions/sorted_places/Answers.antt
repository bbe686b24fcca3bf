use Rattle.std.proofs.Common.{◌≡◌, ◌∙◌, arith, length, rules, slice_get, subst, sym}
use Rattle.std.specs.Map.{keys_of}
use Rattle.std.specs.List.Sorted.{IsPermutation}
use Rattle.std.proofs.lemmas.Fn.{always_returns_same}
use Rattle.std.proofs.lemmas.List.Sorted.{IsPermutation-trans, length_permutation}
use Rattle.cns_netting.specs.Positions.{places_below}
use Rattle.cns_netting.proofs.PlaceLemmas.{length-places_below}
use Rattle.cns_netting.proofs.positions.sorted_places.Goals as goal

pub returns : goal.returns
returns c =
    let sort = c.in_ok-sort_by_key.ensures in
    let places = c.sort_by_key.new.self.items in
    let all = c.args.all.now.entries in
    let each = IsPermutation-trans _ _ _ c.in_ok-places.ensures sort.permutation in
    let len : length places ≡ length all = length_permutation _ _ each ∙ length-places_below (length all) in
    record {
      most = omega (arith, len);
      each = subst (λ n. IsPermutation (places_below n) places) (sym len) each;
      sorted = sort.sorted (slice_get (keys_of all)) (always_returns_same _ _ _ (λ a r g h. search rules));
    }

use Rattle.std.proofs.Common.{[], ap, refl, List}
use Rattle.std.specs.Map.{lookup}
use Rattle.cns_depository.specs.declared.place.Place.{Place}
use Rattle.cns_depository.specs.declared.ranges.Range.{Range}
use Rattle.cns_depository.specs.Ranges.{range_by}
use Rattle.cns_depository.specs.Totals.{place_eq}
use Rattle.cns_depository.proofs.RangeLemmas.{ranges_first, ranges_same}
use Rattle.cns_depository.proofs.TotalLemmas.{sums_none}
use Rattle.cns_depository.proofs.ranges.OpeningRanges.new.Goals as goal

pub returns : goal.returns
returns c = record {
  sums = sums_none _ (λ k. Prim.rw c.new.ensures.empty refl);
  count = refl;
  ranges = ranges_same _ _ [] (λ k. ap (λ (entries : List (Place × Range)). range_by k (lookup (place_eq k) entries)) c.new-2.ensures.empty) ranges_first;
}

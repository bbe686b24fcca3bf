-- What the records of a depository say of its openings (this project's own rules).
use Rattle.std.specs.Prelude.{◌≡◌, List, length}
use Rattle.std.specs.HashMap.{get}
use Rattle.cns_records.specs.declared.dep_record.DepRecord.{DepRecord}
use Rattle.cns_depository.specs.declared.ranges.OpeningRanges.{OpeningRanges}
use Rattle.cns_depository.specs.Ranges.{AreRanges, range_by}
use Rattle.cns_depository.specs.Totals.{AreTransferred, moved_at, place_eq}

-- ranges are those of these records, the newest first
pub record AreRangesOf (found : OpeningRanges) (p : List DepRecord) : Type 0 where
  pub sums : AreTransferred (λ k. moved_at (get place_eq found.moved k)) p
  pub count : found.count ≡ length p
  pub ranges : AreRanges (λ k. range_by k (get place_eq found.ranges k)) p

-- ranges are those of some records
abbrev pub AreSomeRanges : OpeningRanges → Type 0
AreSomeRanges found = (p : List DepRecord) × AreRangesOf found p

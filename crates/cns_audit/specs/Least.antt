-- What a check finds of the openings of a depository by its journal alone (this project's own rules).
use Rattle.std.specs.Prelude.{◌≡◌, ℕ, Bool, true, List, ◌∷◌, map, reverse, Option, Some, Result, IsOkAnd}
use Rattle.cns_journal.specs.Layout.{journal_of}
use Rattle.cns_journal.specs.Replay.{AreFit}
use Rattle.cns_records.specs.Dep.{HasDepPayload, dep_spelling}
use Rattle.cns_records.specs.declared.dep_record.DepRecord.{DepRecord}
use Rattle.cns_trades.specs.declared.opening.Opening.{Opening}
use Rattle.cns_depository.specs.Ranges.{AreOpeningsOf}
use Rattle.cns_depository.specs.RangesOf.{AreRangesOf}
use Rattle.cns_depository.specs.declared.ranges.OpeningRanges.{OpeningRanges}

-- the records of a file are these, the newest first, each of which has a payload of its own
pub record HasRecords (file : List ℕ) (p : List DepRecord) : Type 0 where
  pub fit : AreFit HasDepPayload (reverse p)
  pub spelled : map dep_spelling (reverse p) ≡ journal_of file

-- where some openings let all records of a file stand, what is found are the ranges of these
abbrev pub Finds : {E : Type 0} → List ℕ → Result OpeningRanges E → Type 0
Finds file found = (p : List DepRecord) (openings : List Opening) → HasRecords file p → AreOpeningsOf openings p → IsOkAnd found (λ ranges. AreRangesOf ranges p)

-- what becomes of ranges by a payload, and whether openings are left: where it is a record with which there are, they are, and it is taken
abbrev pub TakesPayload : List ℕ → Option Bool → OpeningRanges → OpeningRanges → Type 0
TakesPayload payload left old new =
    (r : DepRecord) → HasDepPayload r → dep_spelling r ≡ payload → (p : List DepRecord) → AreRangesOf old p
    → AreRangesOf new (r ∷ p) × ((openings : List Opening) → AreOpeningsOf openings (r ∷ p) → left ≡ Some true)

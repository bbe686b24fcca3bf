-- What is kept of what is found: all is counted, and of each part the first 1,000 are kept with their places.
use Rattle.std.specs.Prelude.{◌≡◌, ◌+◌, ℕ, nat_lt, List, [], ◌∷◌, ◌++◌, map, count_by, Bool, true, false, if◌then◌else◌}
use Rattle.cns_check.specs.declared.finding.Finding.{Finding}
use Rattle.cns_check.specs.declared.finding.Finding.TheVariants as finding
use Rattle.cns_check.specs.declared.finding.Part.{Part}
use Rattle.cns_check.specs.declared.finding.Part.TheVariants as part
use Rattle.cns_check.specs.declared.finding.Table.{Table}
use Rattle.cns_check.specs.declared.finding.Table.TheVariants as table
use Rattle.cns_check.specs.declared.found.Found.{Found}
use Rattle.cns_check.specs.declared.found.Findings.{Findings}

abbrev pub part_of_table : Table → Part
part_of_table table.Openings = part.Openings
part_of_table table.Trades = part.Trades

-- the part of an input in which something is found
abbrev pub part_of : Finding → Part
part_of (finding.NoHead h) = part.Heads
part_of finding.HeadOrder = part.Heads
part_of (finding.NoHeader t) = part.Heads
part_of (finding.Row t n f) = part_of_table t
part_of (finding.OpeningRefused n f) = part.Openings
part_of (finding.Line n) = part.Script

abbrev pub is_part : Part → Part → Bool
is_part part.Heads part.Heads = true
is_part part.Openings part.Openings = true
is_part part.Trades part.Trades = true
is_part part.Script part.Script = true
is_part _ _ = false

-- how many are of a part
abbrev pub how_many : Part → List Finding → ℕ
how_many p fs = count_by (λ f. is_part p (part_of f)) fs

-- those before which fewer than 1,000 of their part stand, where these stand before
unfoldable pub first_after : List Finding → List Finding → List Finding
first_after before [] = []
first_after before (f ∷ fs) = (if nat_lt (how_many (part_of f) before) 1000 then f ∷ [] else []) ++ first_after (before ++ f ∷ []) fs

abbrev pub first_of : List Finding → List Finding
first_of = first_after []

-- how many were counted in a part
abbrev pub count_of : Part → Findings → ℕ
count_of part.Heads kept = kept.heads
count_of part.Openings kept = kept.openings
count_of part.Trades kept = kept.trades
count_of part.Script kept = kept.script

abbrev pub first_findings : Findings → List Finding
first_findings kept = map (λ (f : Found). f.finding) kept.first.items

-- what is kept of these findings
unfoldable pub IsOf : Findings → List Finding → Type 0
IsOf kept all = (first_findings kept ≡ first_of all) × ((p : Part) → count_of p kept ≡ how_many p all)

-- one more was counted in a part, and nothing else has changed
abbrev pub CountsOne : Part → Findings → Findings → Type 0
CountsOne p old new = (first_findings new ≡ first_findings old) × ((q : Part) → count_of q new ≡ count_of q old + (if is_part q p then 1 else 0))

-- one was kept where fewer than 1,000 of its part were counted, and nothing else has changed
abbrev pub KeepsOne : Finding → Findings → Findings → Type 0
KeepsOne f old new =
    (first_findings new ≡ first_findings old ++ (if nat_lt (count_of (part_of f) old) 1000 then f ∷ [] else [])) × ((q : Part) → count_of q new ≡ count_of q old)

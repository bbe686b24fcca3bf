-- What the lines of a text are in their places.
use Rattle.std.specs.Prelude.{ℕ, ◌+◌, ◌-◌, ◌^◌, min, bytes_eq, true, false, List, [], codes, Option, Some, None, option_map, unwrap_or, if◌then◌else◌}
use Rattle.cns_ids.specs.Cycle.{kind_text}
use Rattle.cns_words.specs.Words.{begins_with}
use Rattle.cns_table.specs.Head.{head_in}
use Rattle.cns_table.specs.Row.{row_of, texts_of}
use Rattle.cns_table.specs.declared.head.Cycle.{Cycle}
use Rattle.cns_table.specs.declared.place.Place.{Place}
use Rattle.cns_table.specs.declared.place.Step.{Step}
use Rattle.cns_table.specs.declared.place.Step.TheVariants as step

abbrev pub cycle_date : Option Cycle → List ℕ
cycle_date None = []
cycle_date (Some cycle) = cycle.date

abbrev pub cycle_kind : Option Cycle → List ℕ
cycle_kind None = []
cycle_kind (Some cycle) = kind_text cycle.kind

-- what a line is that may stand in its place: the head of a report, a row with what it has in its columns, or neither
pub data LineTold : Type 0 where
  Begins : LineTold
  Tells : List (List ℕ) → LineTold
  Passes : LineTold

abbrev pub told_by : Step → LineTold
told_by step.Begun = Begins
told_by (step.Row row) = Tells (texts_of row)
told_by step.Passed = Passes

-- in a report: its end or a row; none where it may not stand there
unfoldable pub told_inside : List ℕ → Option LineTold
told_inside line = if bytes_eq line (codes "END") then Some Passes else option_map Tells (row_of line)

-- outside of reports a line that begins with REPORT is to be a head
unfoldable pub told_outside : List ℕ → Option LineTold
told_outside line = if begins_with line (codes "REPORT") then option_map (λ _. Begins) (head_in line) else Some Passes

abbrev pub line_told : Place → List ℕ → Option LineTold
line_told place line = if place.inside then told_inside line else told_outside line

-- the place behind a line
abbrev pub behind_inside : Place → List ℕ → Place
behind_inside place line = if bytes_eq line (codes "END") then record place { inside = false } else place

abbrev pub begun : Place → Option Cycle → Place
begun place cycle = record { reports = min (place.reports + 1) (2 ^ 64 - 1); cycle = cycle; inside = true }

abbrev pub behind_outside : Place → List ℕ → Place
behind_outside place line = if begins_with line (codes "REPORT") then unwrap_or (option_map (begun place) (head_in line)) place else place

abbrev pub place_behind : Place → List ℕ → Place
place_behind place line = if place.inside then behind_inside place line else behind_outside place line

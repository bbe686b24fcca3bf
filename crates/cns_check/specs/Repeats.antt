-- Trades of which an earlier row has the id (this project's own rule): a run takes the first one of an id that is accepted, and refuses the others.
use Rattle.std.specs.Prelude.{◌≡◌, ℕ, nat_lt, List, [], drop, take, length, map, filter, filter_map, find, get_or, option_map, Option, None, Some}
use Rattle.std.specs.HashMap.{get}
use Rattle.std.specs.List.{enumerate_from}
use Rattle.std.specs.Result.{result_ok}
use Rattle.cns_trades.specs.Fields.{same_text}
use Rattle.cns_trades.specs.ReadId.{read_id}
use Rattle.cns_trades.specs.Records.{Fields}
use Rattle.cns_input.specs.Sections.{sections}
use Rattle.cns_check.specs.Findings.{records_of}
use Rattle.cns_check.specs.declared.repeat.Repeat.{Repeat}
use Rattle.cns_check.specs.declared.repeat.Repeats.{Repeats}
use Rattle.cns_check.specs.declared.seen.FirstRow.{FirstRow}
use Rattle.cns_check.specs.declared.seen.Seen.{Seen}

-- ---- the rows that have an id

-- the id of a row, where its first field is one
unfoldable pub row_id : Fields → Option (List ℕ)
row_id fs = result_ok (read_id (get_or fs 0 []))

-- a row's number and its id
abbrev pub numbered_id : ℕ × Fields → Option (ℕ × List ℕ)
numbered_id row = option_map (λ id. (row.0, id)) (row_id row.1)

-- the rows that have an id, numbered from 1
abbrev pub numbered_ids : List Fields → List (ℕ × List ℕ)
numbered_ids rows = filter_map numbered_id (enumerate_from 1 rows)

-- ---- an id that comes again

-- the first of these rows that has an id
abbrev pub first_with : List ℕ → List (ℕ × List ℕ) → Option ℕ
first_with id rows = option_map (λ (row : ℕ × List ℕ). row.0) (find (λ (row : ℕ × List ℕ). same_text id row.1) rows)

-- those of these rows that stand before a row
abbrev pub rows_before : ℕ → List (ℕ × List ℕ) → List (ℕ × List ℕ)
rows_before n rows = filter (λ (row : ℕ × List ℕ). nat_lt row.0 n) rows

-- a row and the first one before it that has its id, where one has
abbrev pub repeat_in : List (ℕ × List ℕ) → ℕ × List ℕ → Option (ℕ × ℕ)
repeat_in rows row = option_map (λ first. (row.0, first)) (first_with row.1 (rows_before row.0 rows))

abbrev pub repeats_among : List (ℕ × List ℕ) → List (ℕ × ℕ)
repeats_among rows = filter_map (repeat_in rows) rows

-- the rows whose id an earlier one has, each with the first row that has it
abbrev pub repeats_of : List Fields → List (ℕ × ℕ)
repeats_of rows = repeats_among (numbered_ids rows)

-- those of a text: none where it has no sections, and else of the trades behind the first record, which is to be their header
abbrev pub repeats_in : List ℕ → List (ℕ × ℕ)
repeats_in text = elim (sections text) [ None ↦ [] | Some (openings, trades, script) ↦ repeats_of (drop 1 (records_of trades)) ]

-- ---- what is kept

abbrev pub repeated_rows : Repeats → List (ℕ × ℕ)
repeated_rows kept = map (λ (r : Repeat). (r.row, r.earlier_row)) kept.first.items

-- what is kept of these: all are counted, and the first 1,000 are kept
pub record KeepsRepeats (kept : Repeats) (all : List (ℕ × ℕ)) : Type 0 where
  pub first : repeated_rows kept ≡ take 1000 all
  pub count : kept.count ≡ length all

-- the first row of an id, among those that were passed
abbrev pub first_row : Seen → List ℕ → Option ℕ
first_row seen id = option_map (λ (r : FirstRow). r.row) (get same_text seen.first id)

-- these rows were passed: the first row of each id is known, and what is kept are those whose id an earlier one has
pub record HasPassed (seen : Seen) (rows : List Fields) : Type 0 where
  pub first : (id : List ℕ) → first_row seen id ≡ first_with id (numbered_ids rows)
  pub repeats : KeepsRepeats seen.repeats (repeats_of rows)

-- The lines of a text, and what they come to.
use Rattle.std.specs.Prelude.{◌≡◌, ℕ, ◌+◌, false, is_none, List, [], ◌∷◌, ◌++◌, Option, Some, None, Result, Ok, Err, if◌then◌else◌}
use Rattle.std.specs.List.{flat_map, onto_first}
use Rattle.cns_table.specs.Place.{place_behind, line_told}
use Rattle.csv.specs.Writing.{row_text}
use Rattle.cns_table.specs.Sheet.{bare_writer, column_names}
use Rattle.cns_words.specs.Words.{is_lf}
use Rattle.cns_table.specs.Table.{adds, holds, row_line_at}
use Rattle.cns_table.specs.declared.fault.TableFault.{TableFault}
use Rattle.cns_table.specs.declared.fault.TableFault.TheVariants as fault
use Rattle.cns_table.specs.declared.place.Place.{Place}
use Rattle.cns_table.specs.declared.reports.Reports.{Reports}

-- the place before a text
abbrev pub at_start : Place
at_start = record { reports = 0; cycle = None; inside = false }

-- the lines of a text, without their LFs; the last one may have none
unfoldable pub text_lines : List ℕ → List (List ℕ)
text_lines [] = []
text_lines (c ∷ cs) = if is_lf c then [] ∷ text_lines cs else onto_first c (text_lines cs)

-- what speaks against lines from a place on, of which the first has this number: the first of them that has no place, or else that the last
-- report has no end
unfoldable pub fault_from : Place → ℕ → List (List ℕ) → Option TableFault
fault_from place n [] = if place.inside then Some fault.Cut else None
fault_from place n (line ∷ lines) = if is_none (line_told place line) then Some (fault.Line n) else fault_from (place_behind place line) (n + 1) lines

abbrev pub text_fault : List ℕ → Option TableFault
text_fault text = fault_from at_start 1 (text_lines text)

-- an answer is the one that a text asks for, but where reading, writing or memory failed
abbrev pub IsAnswer : {A : Type 0} → Result A TableFault → Option TableFault → Type 0
IsAnswer (Ok v) against = against ≡ None
IsAnswer (Err fault.Read) against = Unit {0}
IsAnswer (Err (fault.Line n)) against = against ≡ Some (fault.Line n)
IsAnswer (Err fault.Cut) against = against ≡ Some fault.Cut
IsAnswer (Err fault.Memory) against = Unit {0}
IsAnswer (Err fault.Write) against = Unit {0}

-- the text of the rows that lines from a place on come to, where these lines are held before them: what each adds, and in the end the rows
-- of the last report that are held
unfoldable pub rows_from : Reports → Place → List ℕ → List (List ℕ) → List ℕ
rows_from which place held [] = flat_map (row_line_at place) (text_lines held)
rows_from which place held (line ∷ lines) =
    adds (line_told place line) which (place_behind place line) ++ rows_from which (place_behind place line) (holds (line_told place line) which held line) lines

-- the text of the table of a text: the names of the columns, and the rows
abbrev pub table_text : Reports → List ℕ → List ℕ
table_text which text = row_text bare_writer column_names ++ rows_from which at_start [] (text_lines text)

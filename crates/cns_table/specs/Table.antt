-- A table, line by line of the text.
use Rattle.std.specs.Prelude.{◌≡◌, ℕ, List, [], ◌∷◌, ◌++◌, Option, Some, None}
use Rattle.csv.specs.Writing.{row_text}
use Rattle.cns_table.specs.Place.{LineTold, Begins, Tells, Passes}
use Rattle.cns_table.specs.Row.{row_of}
use Rattle.cns_table.specs.Sheet.{bare_writer, cells}
use Rattle.cns_table.specs.declared.fault.TableFault.{TableFault}
use Rattle.cns_table.specs.declared.fault.TableFault.TheVariants as fault
use Rattle.cns_table.specs.declared.place.Place.{Place}
use Rattle.cns_table.specs.declared.reports.Reports.{Reports}
use Rattle.cns_table.specs.declared.reports.Reports.TheVariants as reports

-- the text of a row with these columns, of the report that a place stands in
abbrev pub row_line : Place → List (List ℕ) → List ℕ
row_line place texts = row_text bare_writer (cells place texts)

-- and of the row that a line is, or nothing where it is none
abbrev pub row_line_of : Place → Option (List (List ℕ)) → List ℕ
row_line_of place None = []
row_line_of place (Some texts) = row_line place texts

unfoldable pub row_line_at : Place → List ℕ → List ℕ
row_line_at place line = row_line_of place (row_of line)

-- what a line adds to the table at once: the row that it is, where all reports are told
abbrev pub adds : Option LineTold → Reports → Place → List ℕ
adds None which place = []
adds (Some Begins) which place = []
adds (Some (Tells texts)) reports.All place = row_line place texts
adds (Some (Tells texts)) reports.Last place = []
adds (Some Passes) which place = []

-- the lines that are held behind a line, each with its LF: none behind a head, and where the last report alone is told, behind a row this
-- line too
abbrev pub holds : Option LineTold → Reports → List ℕ → List ℕ → List ℕ
holds None which held line = held
holds (Some Begins) which held line = []
holds (Some (Tells texts)) reports.All held line = held
holds (Some (Tells texts)) reports.Last held line = held ++ line ++ 10 ∷ []
holds (Some Passes) which held line = held

-- the faults that a line may come to: it has no place, or writing or memory failed
abbrev pub IsOfLine : ℕ → TableFault → Type 0
IsOfLine number fault.Read = ⊥
IsOfLine number (fault.Line n) = n ≡ number
IsOfLine number fault.Cut = ⊥
IsOfLine number fault.Memory = Unit {0}
IsOfLine number fault.Write = Unit {0}

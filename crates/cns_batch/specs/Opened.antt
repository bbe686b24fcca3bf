-- What the rows of openings tell, before the script begins.
use Rattle.std.specs.Prelude.{ℕ, List, [], ◌∷◌, ◌++◌, Some, None}
use Rattle.cns_trades.specs.declared.opening.Opening.{Opening}
use Rattle.cns_trades.specs.declared.opening.OpeningRow.{OpeningRow}
use Rattle.cns_trades.specs.declared.opening.OpeningRow.TheVariants as row
use Rattle.cns_depository.specs.Openings.{opening_fault}
use Rattle.cns_report.specs.Lines.{bytes_of_line}
use Rattle.cns_report.specs.declared.line.Line.TheVariants as line

-- the openings that are held and what is told after one more row, by its number: the row is held, or its line is told where it is faulty or
-- something speaks against the opening
abbrev pub told_opening : List Opening × List ℕ → ℕ × OpeningRow → List Opening × List ℕ
told_opening (held, told) (n, row.Fault number f) = (held, told ++ bytes_of_line (line.OpeningRowFault number f))
told_opening (held, told) (n, row.Opening o) =
    elim (opening_fault held o) [ None ↦ (held ++ o ∷ [], told) | Some f ↦ (held, told ++ bytes_of_line (line.OpeningRefused n f)) ]

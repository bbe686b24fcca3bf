use Rattle.std.proofs.Common.{◌≡◌, ◌++◌, ℕ, List, length}
use Rattle.std.specs.Io.KnownBytes.{Appends}
use Rattle.std.specs.List.{flat_map}
use Rattle.csv.specs.Writing.{text_written}
use Rattle.cns_table.specs.Run.{text_lines}
use Rattle.cns_table.specs.Sheet.{StandsAtRow}
use Rattle.cns_table.specs.Table.{row_line_at}
use Rattle.cns_table.proofs.table.write_lines.Given as goal

abbrev pub invariant-loop-line : goal.invariant-loop-line
invariant-loop-line g l =
    StandsAtRow l.fn.sheet.writer → StandsAtRow l.sheet.writer
    × ((done : List ℕ) × Appends (text_written g.W.Write.contents l.fn.sheet.writer) (text_written g.W.Write.contents l.sheet.writer) done
    × (flat_map (row_line_at l.place) (text_lines l.lines) ≡ done ++ flat_map (row_line_at l.place) (text_lines l.rest)))

abbrev pub decreases-loop-line : goal.decreases-loop-line
decreases-loop-line g l = length l.rest

use Rattle.std.proofs.Common.{◌≡◌}
use Rattle.csv.specs.Writing.{text_written}
use Rattle.cns_table.specs.Sheet.{StandsAtRow}
use Rattle.cns_table.proofs.RowLemmas.{WroteAt}
use Rattle.cns_table.proofs.RunLemmas.{StandsAt}
use Rattle.cns_table.proofs.write.take_lines.Given as goal

abbrev pub invariant-loop-number : goal.invariant-loop-number
invariant-loop-number g l =
    StandsAt l.fn.table.place (g.R.Read.remaining l.fn.reader) (g.R.Read.remaining l.reader) l.table.place l.number
    × (l.table.which ≡ l.fn.table.which)
    × (StandsAtRow l.fn.table.sheet.writer → StandsAtRow l.table.sheet.writer
    × WroteAt l.fn.table.which l.fn.table.place l.fn.table.held.items (g.R.Read.remaining l.fn.reader) (g.R.Read.remaining l.reader) l.table.place l.table.held.items (text_written g.W.Write.contents l.fn.table.sheet.writer) (text_written g.W.Write.contents l.table.sheet.writer))

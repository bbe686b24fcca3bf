use Rattle.std.proofs.Common.{◌≡◌, ◌++◌, ◌∙◌, [], ap, append-nil, subst, sym}
use Rattle.std.specs.Io.KnownBytes.{Appends}
use Rattle.std.specs.List.{flat_map}
use Rattle.csv.proofs.WriteFacts.{appends-more}
use Rattle.csv.specs.Writing.{text_written}
use Rattle.cns_table.proofs.RowLemmas.{lines_later}
use Rattle.cns_table.specs.Row.{texts_of}
use Rattle.cns_table.specs.Run.{text_lines}
use Rattle.cns_table.specs.Table.{row_line_at, row_line, row_line_of}
use Rattle.cns_table.proofs.table.write_lines.Goals as goal

pub loop-line-preserved-in_ok-write_row : goal.loop-line-preserved-in_ok-write_row
unfolding row_line_at
loop-line-preserved-in_ok-write_row g c = λ at.
    let place = c.args.place.now in
    let line = c.in-Some.line.now in
    let was = c.loop-line.invariant at in
    let wrote = c.in_ok-write_row.ensures.row was.0 in
    let row : row_line_at place line ≡ row_line place (texts_of c.in-Some-row_of.row) = ap (row_line_of place) (sym c.in-Some-row_of.ensures) in
    let more = subst (Appends (text_written g.W.Write.contents c.loop-line.sheet.writer) (text_written g.W.Write.contents c.write_row.new.self.writer)) (sym row) wrote.1 in
    let later = lines_later place c.args.lines.now c.loop-line.rest.now c.in-Some.after.now line was.1.0 c.in-Some.ensures.lines was.1.2 in
    (wrote.0, (was.1.0 ++ row_line_at place line, appends-more _ _ _ _ _ was.1.1 more, later))

pub loop-line-preserved : goal.loop-line-preserved
unfolding row_line_at
loop-line-preserved g c = λ at.
    let place = c.args.place.now in
    let line = c.in-Some.line.now in
    let was = c.loop-line.invariant at in
    let none : row_line_at place line ≡ [] = ap (row_line_of place) (sym (rw c.in_default-row_of.is at c.row_of.ensures)) in
    let later = lines_later place c.args.lines.now c.loop-line.rest.now c.in-Some.after.now line was.1.0 c.in-Some.ensures.lines was.1.2 in
    let rest = flat_map (row_line_at place) (text_lines c.in-Some.after.now) in
    (was.0, (was.1.0, was.1.1, later ∙ ap (λ r. (was.1.0 ++ r) ++ rest) none ∙ ap (λ d. d ++ rest) (append-nil was.1.0)))

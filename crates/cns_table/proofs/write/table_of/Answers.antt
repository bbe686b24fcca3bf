use Rattle.std.proofs.lemmas.Option.{IfSome_then}
use Rattle.csv.proofs.WriteFacts.{appends-more}
use Rattle.cns_table.proofs.write.table_of.Goals as goal

pub returns-clause-whole : goal.returns-clause-whole
returns-clause-whole g c =
    let begun = c.in_ok-table.ensures in
    let rows = rw (c.in_ok-lines.ensures.same, begun.which, begun.place, begun.held) at (c.in_ok-take_lines.ensures.rows begun.row) in
    IfSome_then (g.R.Read.remaining c.args.reader) rows (λ text more. appends-more _ _ _ _ _ begun.header more)

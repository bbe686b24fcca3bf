use Rattle.std.proofs.Common.{◌∙◌, sym}
use Rattle.cns_trades.proofs.RowLemmas.{takes_header, takes_row}
use Rattle.cns_trades.proofs.record.take_record.Goals as goal

pub returns-then-is_header-clause-ok : goal.returns-then-is_header-clause-ok
returns-then-is_header-clause-ok g c = λ before stand under.
    let none = rw c.if-header_is_next.true at stand in
    takes_header g.R.FromRecord.is_header g.R.FromRecord.row_at before _ _ none (sym c.is_header.ensures ∙ c.if-is_header.true) under

pub returns-in-Ok-clause-ok : goal.returns-in-Ok-clause-ok
returns-in-Ok-clause-ok g c = λ before stand under.
    let some = rw c.if-header_is_next.false at stand in
    rw c.in-Ok.ensures (takes_row g.R.FromRecord.is_header g.R.FromRecord.row_at before _ _ some under)

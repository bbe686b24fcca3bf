use Rattle.cns_clearing.proofs.PlanLemmas.{longs_in_part}
use Rattle.cns_clearing.proofs.books.Books.were_long.Goals as goal

pub returns : goal.returns
returns c = rw (← c.self.view_is, ← c.deref.ensures.value, ← longs_in_part c.args.issue c.deref.result.now, ← c.rows_of_issue.ensures) c.longs_in.ensures

use Rattle.cns_batch.proofs.PutLemmas.{ArePut}
use Rattle.cns_batch.proofs.page.Page.each.Given as goal

abbrev pub invariant-loop-row : goal.invariant-loop-row
invariant-loop-row g l = ArePut g.R.Put.text l.rows l.row-index l.fn.self l.self (g.W.Write.contents l.fn.writer) (g.W.Write.contents l.writer)

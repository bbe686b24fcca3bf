use Rattle.cns_batch.specs.ByWorkers.{ticket_line}
use Rattle.cns_batch.proofs.PutLemmas.{ArePut}
use Rattle.cns_batch.proofs.page.Page.tickets.Given as goal

abbrev pub invariant-loop-outcome : goal.invariant-loop-outcome
invariant-loop-outcome g l =
    ArePut (ticket_line l.lot) l.entered l.outcome-index l.fn.self l.self (g.W.Write.contents l.fn.writer) (g.W.Write.contents l.writer)

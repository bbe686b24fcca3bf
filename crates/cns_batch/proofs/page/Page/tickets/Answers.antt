use Rattle.std.proofs.lemmas.Result.{err_from_is_err_and}
use Rattle.cns_batch.proofs.PutLemmas.{all_put, none_put, row_fails, row_put}
use Rattle.cns_batch.proofs.page.Page.tickets.Goals as goal

pub loop-outcome-init : goal.loop-outcome-init
loop-outcome-init g c = none_put _ _ _ _

pub returns-in_err-ticket : goal.returns-in_err-ticket
returns-in_err-ticket g c =
    let p = err_from_is_err_and c.from_residual.result c.from_residual.ensures.1 in
    rw (p.1, p.2) (row_fails c.in_err-ticket.field-0.0 c.ticket.new.self _ c.loop-outcome-test.true c.outcome-item.is c.loop-outcome.invariant c.in_err-ticket.ensures)

pub loop-outcome-preserved : goal.loop-outcome-preserved
loop-outcome-preserved g c = row_put c.loop-outcome-test.true c.outcome-item.is c.loop-outcome.invariant c.in_ok-ticket.ensures

pub returns : goal.returns
returns g c = all_put c.loop-outcome-test.false c.loop-outcome.invariant

use Rattle.std.proofs.lemmas.Result.{err_from_is_err_and}
use Rattle.cns_batch.proofs.PutLemmas.{all_put, none_put, row_fails, row_put}
use Rattle.cns_batch.proofs.page.Page.each.Goals as goal

pub loop-row-init : goal.loop-row-init
loop-row-init g c = none_put _ _ _ _

pub returns-in_err-told : goal.returns-in_err-told
returns-in_err-told g c =
    let p = err_from_is_err_and c.from_residual.result c.from_residual.ensures.1 in
    rw (p.1, p.2) (row_fails c.in_err-told.field-0.0 c.told.new.self _ c.loop-row-test.true c.row-item.is c.loop-row.invariant c.in_err-told.ensures)

pub loop-row-preserved : goal.loop-row-preserved
loop-row-preserved g c = row_put c.loop-row-test.true c.row-item.is c.loop-row.invariant c.in_ok-told.ensures

pub returns : goal.returns
returns g c = all_put c.loop-row-test.false c.loop-row.invariant

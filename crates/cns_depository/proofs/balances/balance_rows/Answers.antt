use Rattle.cns_depository.proofs.KeyLemmas.{rows_in_order}
use Rattle.cns_depository.proofs.balances.balance_rows.Goals as goal

pub returns : goal.returns
returns c = λ p are.
    rows_in_order c.args.stock.now c.args.openings.now p c.in_ok-rows.rows.items c.sort_rows.new.rows.items are (c.in_ok-rows.ensures p are) c.sort_rows.ensures.same c.sort_rows.ensures.order

use Rattle.std.proofs.Common.{sym, subst}
use Rattle.std.specs.Prelude.{◌≡◌, List, IfOk}
use Rattle.std.proofs.lemmas.Result.{IfOk-weaker}
use Rattle.cns_depository.specs.Node.{DepNode}
use Rattle.cns_depository.specs.declared.balances.BalanceRow.{BalanceRow}
use Rattle.cns_depository.specs.Balances.{balance_rows, AreComplete, AreAscending}
use Rattle.cns_depository.proofs.RowLemmas.{rows_complete, rows_ascend}
use Rattle.cns_depository.proofs.depository.Depository.balances.Goals as goal

pub returns-clause-rows : goal.returns-clause-rows
returns-clause-rows g c =
    subst (λ (v : DepNode). IfOk c.balance_rows.result (λ (rows : List BalanceRow). rows ≡ balance_rows v.openings v.log.records)) c.self.view_is
    (c.balance_rows.ensures c.self.inside.log.records c.self.invariant.totals)

pub returns-clause-complete : goal.returns-clause-complete
returns-clause-complete g c =
    let openings = c.self.inside.openings in
    let p = c.self.inside.log.records in
    let made = c.balance_rows.ensures p c.self.invariant.totals in
    subst (λ (v : DepNode). IfOk c.balance_rows.result (AreComplete v.openings v.log.records)) c.self.view_is
    (IfOk-weaker c.balance_rows.result (λ (rows : List BalanceRow). rows ≡ balance_rows openings p) (AreComplete openings p)
    (λ rows is. subst (AreComplete openings p) (sym is) (rows_complete openings p)) made)

pub returns-clause-ascending : goal.returns-clause-ascending
returns-clause-ascending g c =
    let openings = c.self.inside.openings in
    let p = c.self.inside.log.records in
    let made = c.balance_rows.ensures p c.self.invariant.totals in
    IfOk-weaker c.balance_rows.result (λ (rows : List BalanceRow). rows ≡ balance_rows openings p) AreAscending
    (λ rows is. subst AreAscending (sym is) (rows_ascend openings p)) made

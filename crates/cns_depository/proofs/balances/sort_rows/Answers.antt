use Rattle.std.proofs.Common.{rules}
use Rattle.std.proofs.lemmas.Fn.{always_returns_same}
use Rattle.cns_depository.specs.Balances.{row_place, side_rank}
use Rattle.cns_depository.specs.declared.balances.BalanceRow.{BalanceRow}
use Rattle.cns_depository.proofs.balances.sort_rows.Goals as goal

pub returns-clause-order : goal.returns-clause-order
returns-clause-order c =
    c.sort_unstable_by_key.ensures.sorted (λ (row : BalanceRow). (row.issue, side_rank (row_place row).side)) (always_returns_same _ _ _ (λ a r g h. search rules))

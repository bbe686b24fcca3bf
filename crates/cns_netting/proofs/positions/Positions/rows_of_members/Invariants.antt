use Rattle.std.proofs.Common.{◌≡◌, ℕ, Some}
use Rattle.std.specs.Prelude.{sum_by}
use Rattle.std.specs.Map.{lookup}
use Rattle.cns_ids.specs.Holding.{holding_eq}
use Rattle.cns_ids.specs.declared.holding.Holding.{Holding}
use Rattle.cns_netting.specs.Positions.{holdings_up_to, row_if, row_part}
use Rattle.cns_netting.specs.declared.position.PositionRow.{PositionRow}
use Rattle.cns_netting.proofs.positions.Positions.rows_of_members.Given as goal

abbrev pub invariant-loop-number : goal.invariant-loop-number
invariant-loop-number l = (f : PositionRow → ℕ)
    → sum_by f l.rows.items ≡ sum_by (λ (k : Holding). row_part f (row_if (Some l.issue) k (lookup (holding_eq k) l.self.entries))) (holdings_up_to l.number l.issue)

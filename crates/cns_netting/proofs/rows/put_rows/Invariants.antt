use Rattle.std.proofs.Common.{◌≡◌, ◌+◌, ℕ, Some}
use Rattle.std.specs.Prelude.{sum_by}
use Rattle.cns_ids.specs.declared.holding.Holding.{Holding}
use Rattle.cns_netting.specs.Positions.{row_if, row_part}
use Rattle.cns_netting.specs.declared.positions.Position.{Position}
use Rattle.cns_netting.specs.declared.position.PositionRow.{PositionRow}
use Rattle.cns_netting.proofs.rows.put_rows.Given as goal

abbrev pub invariant-loop-holding : goal.invariant-loop-holding
invariant-loop-holding l = (f : PositionRow → ℕ)
    → sum_by f l.rows.items + sum_by (λ (e : Holding × Position). row_part f (row_if l.issue e.0 (Some e.1))) l.holding-iterator
    ≡ sum_by f l.initial.rows.items + sum_by (λ (e : Holding × Position). row_part f (row_if l.issue e.0 (Some e.1))) l.entries

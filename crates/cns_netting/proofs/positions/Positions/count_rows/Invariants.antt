use Rattle.std.proofs.Common.{◌≡◌, ◌+◌, ◌≤◌, ℕ, List, cond, length, None, Some}
use Rattle.std.specs.Prelude.{sum_by}
use Rattle.cns_ids.specs.declared.holding.Holding.{Holding}
use Rattle.cns_netting.specs.Positions.{row_if, row_part}
use Rattle.cns_netting.specs.declared.positions.Position.{Position}
use Rattle.cns_netting.specs.declared.position.PositionRow.{PositionRow}
use Rattle.cns_netting.proofs.positions.Positions.count_rows.Given as goal

abbrev pub invariant-loop-holding : goal.invariant-loop-holding
invariant-loop-holding g l =
    let passed : List (Holding × Position) → ℕ = sum_by (λ (e : Holding × Position). row_part (λ (row : PositionRow). cond (g.T.RowTest.passing l.test row) 1 0) (row_if None e.0 (Some e.1))) in
    record {
      sum : l.count + passed l.holding-iterator ≡ passed l.self.entries;
      most : l.count + length l.holding-iterator ≤ length l.self.entries;
    }

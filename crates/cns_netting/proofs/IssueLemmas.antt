-- The rows of a history stand by issue.
use Rattle.std.proofs.Common.{◌≡◌, ◌≤◌, ℕ, List, get_or, ap, arith, Less, inl, inr}
use Rattle.std.specs.List.Sorted.{IsNonDecreasingBy}
use Rattle.std.proofs.lemmas.Bool.{cases_eq}
use Rattle.std.proofs.lemmas.Bool.Decides.{nat_tests}
use Rattle.cns_ids.specs.Holding.{holding_cmp}
use Rattle.cns_netting.specs.Rows.{rows_of}
use Rattle.cns_netting.specs.Positions.{holding_of}
use Rattle.cns_netting.specs.declared.entry.NetEntry.{NetEntry}
use Rattle.cns_netting.specs.declared.position.PositionRow.{PositionRow}
use Rattle.cns_netting.proofs.OrderLemmas.{AreRising}
use Rattle.cns_netting.proofs.RowLemmas.{rising}

not_before : (a b : PositionRow) → holding_cmp (holding_of a) (holding_of b) ≡ Less → a.issue ≤ b.issue
not_before a b less = grind (arith, nat_tests)

by_issue : (rows : List PositionRow) → AreRising rows → IsNonDecreasingBy (λ (r : PositionRow). r.issue) rows
by_issue rows rising i j d le below =
    elim (cases_eq i j) [
      | inl same ↦ omega (arith, ap (λ (k : ℕ). (get_or rows k d).issue) same)
      | inr other ↦ not_before (get_or rows i d) (get_or rows j d) (rising i j d (omega (arith, le)) below)
    ]

pub rows_stand_by_issue : (h : List NetEntry) → IsNonDecreasingBy (λ (r : PositionRow). r.issue) (rows_of h)
rows_stand_by_issue h = by_issue (rows_of h) (rising h)

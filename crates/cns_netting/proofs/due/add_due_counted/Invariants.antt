use Rattle.std.proofs.Common.{◌≡◌, ◌≤◌, take}
use Rattle.std.specs.Prelude.{sum_by}
use Rattle.cns_netting.specs.declared.undue.Change.TheVariants.{Add}
use Rattle.cns_netting.specs.declared.undue.Undue.{Undue}
use Rattle.cns_netting.specs.Positions.{Adds, brought_due, taken_due}
use Rattle.cns_netting.specs.Totals.{AreTotalsOf, KeepIssues}
use Rattle.cns_netting.specs.Undue.{if_settled}
use Rattle.cns_netting.proofs.due.add_due_counted.Given as goal

abbrev pub invariant-loop-trade : goal.invariant-loop-trade
invariant-loop-trade l = record {
  adds : Adds (brought_due Add l.day (take l.trade-index l.undue)) (taken_due Add l.day (take l.trade-index l.undue)) l.fn.positions.entries l.positions.entries;
  issues : KeepIssues l.fn.totals l.totals;
  totals : AreTotalsOf l.totals l.positions.entries;
  count : l.count ≡ sum_by (if_settled l.day (λ (t : Undue). 1)) (take l.trade-index l.undue);
  most : l.count ≤ l.trade-index;
}

use Rattle.std.proofs.Common.{refl}
use Rattle.cns_trades.specs.Held.{Fit, rows_held}
use Rattle.cns_trades.proofs.rows.HeldRowsRowListRow.new.Goals as goal

pub invariant_of-result : goal.invariant_of-result
unfolding Fit
invariant_of-result c = rw (c.new.ensures.items, c.new-2.ensures.items) tt

pub returns : goal.returns
unfolding rows_held
returns c = rw c.new.ensures.items refl

use Rattle.std.proofs.Common.{◌∙◌, Some}
use Rattle.cns_netting.proofs.RowLemmas.{rows_by_sums}
use Rattle.cns_netting.proofs.positions.Positions.rows_in.Goals as goal

pub returns : goal.returns
returns c = λ h are. rows_by_sums (Some c.args.issue) h c.sort_rows.new.rows.items (λ f. c.sort_rows.ensures.sums f ∙ c.in_ok-found.ensures h are f) c.sort_rows.ensures.order

use Rattle.std.proofs.Common.{◌∙◌}
use Rattle.cns_batch.proofs.page.Page.balance_report.Goals as goal

pub returns : goal.returns
returns g c = (rw (c.as_slice.ensures ∙ c.in_ok-balances.ensures.rows) at c.rows.ensures).0

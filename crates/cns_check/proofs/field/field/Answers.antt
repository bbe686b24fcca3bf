use Rattle.std.proofs.Common.{rules}
use Rattle.cns_trades.proofs.RowLemmas.{field_or_empty}
use Rattle.cns_check.proofs.field.field.Goals as goal

pub returns : goal.returns
returns c = rw (field_or_empty _ _) (search rules)

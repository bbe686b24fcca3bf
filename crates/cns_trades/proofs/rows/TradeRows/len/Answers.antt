use Rattle.std.proofs.Common.{◌∙◌, ap, sym, length}
use Rattle.cns_trades.proofs.HeldLemmas.{length-rows_held}
use Rattle.cns_trades.proofs.rows.TradeRows.len.Goals as goal

pub returns : goal.returns
returns c = c.len.ensures ∙ sym (length-rows_held _ _ _ c.self.invariant.0) ∙ ap length c.self.view_is

use Rattle.std.proofs.Common.{◌∷◌, [], ◌∙◌, arith, length-append}
use Rattle.indexmap.proofs.CallerLemmas.{insert_entry-new}
use Rattle.cns_trades.proofs.ListLemmas.{new-few, new-unknown, not_found, trades-more, trades_size}
use Rattle.std.specs.Prelude.{map}
use Rattle.cns_trades.specs.Fields.{same_text}
use Rattle.cns_trades.specs.Listed.{trade_in}
use Rattle.cns_trades.proofs.list.TradeList.add.Goals as goal

pub invariant_of-self-2 : goal.invariant_of-self-2
invariant_of-self-2 c =
    let new = rw (← c.self.view_is) at c.requires in
    let absent = not_found c.args.trade.id c.self.inside.by_id.entries (new-unknown _ c.args.trade new) in
    let entries = c.in_ok-insert.ensures.entries ∙ insert_entry-new same_text c.self.inside.by_id c.args.trade.id c.of.result absent in
    let few = new-few (map trade_in c.self.inside.by_id.entries) c.args.trade new in
    rw entries (omega (arith, trades_size c.self.inside.by_id.entries, length-append c.self.inside.by_id.entries ((c.args.trade.id, c.of.result) ∷ []), few))

pub returns-clause-ok : goal.returns-clause-ok
returns-clause-ok c =
    let new = rw (← c.self.view_is) at c.requires in
    let absent = not_found c.args.trade.id c.self.inside.by_id.entries (new-unknown _ c.args.trade new) in
    let entries = c.in_ok-insert.ensures.entries ∙ insert_entry-new same_text c.self.inside.by_id c.args.trade.id c.of.result absent in
    rw (entries, ← c.self.view_is) (trades-more c.self.inside.by_id.entries c.args.trade c.of.result c.of.ensures)

use Rattle.std.proofs.Common.{◌∙◌, sym, refl}
use Rattle.std.proofs.lemmas.Bool.{lt-ltb, le-ltb}
use Rattle.cns_trades.proofs.ListLemmas.{trades_size, verdict-found, verdict-none}
use Rattle.cns_trades.proofs.list.TradeList.check.Goals as goal

pub returns-then-is_same : goal.returns-then-is_same
returns-then-is_same c =
    let v = verdict-found _ c.args.trade.now _ (sym c.eq.ensures ∙ c.if-eq.false) (sym c.in-Some.ensures.value) in
    let same = sym c.is_same.ensures ∙ c.if-is_same.true in
    rw (← c.self.view_is) (sym (v ∙ rw same refl))

pub returns-else-is_same : goal.returns-else-is_same
returns-else-is_same c =
    let v = verdict-found _ c.args.trade.now _ (sym c.eq.ensures ∙ c.if-eq.false) (sym c.in-Some.ensures.value) in
    let other = sym c.is_same.ensures ∙ c.if-is_same.false in
    rw (← c.self.view_is) (sym (v ∙ rw other refl))

pub returns-then-len-lt-MAX : goal.returns-then-len-lt-MAX
returns-then-len-lt-MAX c =
    let v = verdict-none _ c.args.trade.now (sym c.eq.ensures ∙ c.if-eq.false) (sym c.in-None.ensures.value) in
    let few = lt-ltb _ _ (rw c.len.ensures.len at c.if-len-lt-MAX.true) in
    rw (← c.self.view_is) (sym (v ∙ rw (trades_size c.self.inside.by_id.entries, few) refl))

pub returns-else-len-lt-MAX : goal.returns-else-len-lt-MAX
returns-else-len-lt-MAX c =
    let v = verdict-none _ c.args.trade.now (sym c.eq.ensures ∙ c.if-eq.false) (sym c.in-None.ensures.value) in
    let many = le-ltb _ _ (rw c.len.ensures.len at c.if-len-lt-MAX.false) in
    rw (← c.self.view_is) (sym (v ∙ rw (trades_size c.self.inside.by_id.entries, many) refl))

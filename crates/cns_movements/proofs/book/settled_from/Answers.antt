use Rattle.std.proofs.Common.{None, sym, ◌∙◌}
use Rattle.std.proofs.lemmas.List.{get_or_read}
use Rattle.cns_movements.proofs.BookLemmas.{settled_more}
use Rattle.cns_movements.proofs.book.settled_from.Goals as goal

pub loop-count-preserved : goal.loop-count-preserved
loop-count-preserved c =
    let here = get_or_read c.args.moved.now c.loop-count.count _ c.loop-count-test.true c.index-moved-count.is None in
    settled_more _ _ c.loop-count.invariant c.loop-count-test.true (rw (← here) (sym c.is_some.ensures ∙ c.if-is_some.true))

use Rattle.std.proofs.Common.{reverse}
use Rattle.std.proofs.lemmas.List.{reverse-reverse}
use Rattle.cns_system.proofs.AgreementLemmas.{agree_from, executed_from, ordered_from}
use Rattle.cns_system.proofs.agreement.agree.Goals as goal

pub returns-then-are_ordered : goal.returns-then-are_ordered
returns-then-are_ordered g c =
    let given = c.orders-orders.ensures.orders in
    let ordered = c.are_ordered.ensures.0 c.if-are_ordered.true in (
      λ e. agree_from c.args.clear.now.log.records c.args.depot.now.log.records c.orders-orders.result.now.book c.records.result.now c.replies.result.now given
          c.records.ensures.records c.replies.ensures.replies ordered (c.are_executed.ensures.0 e),
      λ agree. c.are_executed.ensures.1
          (executed_from c.args.clear.now.log.records c.args.depot.now.log.records c.orders-orders.result.now.book c.records.result.now c.replies.result.now given
          c.records.ensures.records c.replies.ensures.replies agree),
    )

pub returns-else-are_ordered : goal.returns-else-are_ordered
returns-else-are_ordered g c = (
  λ e. cc (e, c.if-are_ordered.false),
  λ agree. c.are_ordered.ensures.1
      (ordered_from c.args.clear.now.log.records c.args.depot.now.log.records c.orders-orders.result.now.book c.records.result.now (reverse c.orders-orders.result.now.book.replies)
      c.orders-orders.ensures.orders c.records.ensures.records (reverse-reverse c.orders-orders.result.now.book.replies) agree),
)

use Rattle.std.proofs.Common.{◌<◌, ◌++◌, length, arith, append_assoc, None, ap, ◌∙◌}
use Rattle.std.proofs.lemmas.List.{replicate_more}
use Rattle.cns_movements.proofs.OrderLemmas.{numbered_push}
use Rattle.cns_movements.proofs.book.append.Goals as goal

pub loop-ask-preserved : goal.loop-ask-preserved
loop-ask-preserved c =
    let within : c.loop-ask.ask-index < length c.args.asks.now = omega arith in
    record {
      orders = rw (c.push_reserved.ensures.items, c.from_ask.ensures, c.loop-ask.invariant.orders)
          (numbered_push c.args.orders.now.items c.args.cycle.now c.args.asks.now c.loop-ask.ask-index c.ask-item.result c.of_place-number.result within c.ask-item.is (omega arith));
      moved = rw (c.push_reserved-in-loop-ask.ensures.items, c.loop-ask.invariant.moved)
          (append_assoc c.args.moved.now.items _ _ ∙ ap (λ l. c.args.moved.now.items ++ l) (replicate_more c.loop-ask.ask-index None));
      orders_capacity = grind arith;
      moved_capacity = grind arith;
      orders_len = omega (arith, c.push_reserved.ensures.len);
      moved_len = omega (arith, c.push_reserved-in-loop-ask.ensures.len);
    }

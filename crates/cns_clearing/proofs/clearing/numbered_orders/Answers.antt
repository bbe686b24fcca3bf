use Rattle.std.proofs.Common.{◌<◌, ◌+◌, length, arith, rules}
use Rattle.cns_movements.proofs.OrderLemmas.{numbered_more}
use Rattle.cns_clearing.proofs.clearing.numbered_orders.Goals as goal

pub loop-ask-preserved : goal.loop-ask-preserved
loop-ask-preserved c =
    let within : c.loop-ask.ask-index < length c.args.asks.now = search rules in
    record {
      list = rw (c.in_ok-push.ensures.items, c.from_ask.ensures, c.loop-ask.invariant.list)
          (numbered_more c.args.cycle.now c.args.asks.now (c.len-issued.result + 1) c.loop-ask.ask-index c.in-Some.number c.ask-item.result within c.ask-item.is (search rules));
      len = omega (arith, c.in_ok-push.ensures.len, c.loop-ask.invariant.len);
    }

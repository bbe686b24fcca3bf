use Rattle.std.proofs.Common.{◌≡◌, ◌+◌, length, take}
use Rattle.cns_movements.specs.Order.{numbered}
use Rattle.cns_clearing.proofs.clearing.numbered_orders.Given as goal

abbrev pub invariant-loop-ask : goal.invariant-loop-ask
invariant-loop-ask l = record {
  list : l.list.items ≡ numbered (l.issued + 1) l.cycle (take l.ask-index l.asks);
  len : length l.list.items ≡ l.ask-index;
}

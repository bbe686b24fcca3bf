use Rattle.std.proofs.Common.{◌≡◌, ◌+◌, ◌++◌, length, take, vec_capacity, None}
use Rattle.std.specs.Prelude.{replicate}
use Rattle.cns_movements.specs.Order.{numbered}
use Rattle.cns_movements.proofs.book.append.Given as goal

abbrev pub invariant-loop-ask : goal.invariant-loop-ask
invariant-loop-ask l = record {
  orders : l.orders.items ≡ l.fn.orders.items ++ numbered (length l.fn.orders.items + 1) l.cycle (take l.ask-index l.asks);
  moved : l.moved.items ≡ l.fn.moved.items ++ replicate l.ask-index None;
  orders_capacity : vec_capacity l.orders ≡ vec_capacity l.fn.orders;
  moved_capacity : vec_capacity l.moved ≡ vec_capacity l.fn.moved;
  orders_len : length l.orders.items ≡ length l.fn.orders.items + l.ask-index;
  moved_len : length l.moved.items ≡ length l.fn.moved.items + l.ask-index;
}

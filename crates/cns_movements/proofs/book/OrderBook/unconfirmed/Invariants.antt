use Rattle.std.proofs.Common.{◌≡◌, ◌++◌, drop}
use Rattle.cns_movements.specs.Order.{unconfirmed_of}
use Rattle.cns_movements.proofs.book.OrderBook.unconfirmed.Given as goal

abbrev pub invariant-loop-order : goal.invariant-loop-order
invariant-loop-order l =
    l.numbers.items ++ unconfirmed_of (drop l.order-index l.order-items) l.self.book.replies
    ≡ unconfirmed_of l.fn.self.book.orders l.fn.self.book.replies

use Rattle.std.proofs.Common.{arith, reverse}
use Rattle.cns_movements.proofs.BookLemmas.{moves_length, unconfirmed_behind}
use Rattle.cns_movements.proofs.book.OrderBook.unsettled.Goals as goal

pub returns : goal.returns
returns c =
    let fields = c.self.inside in
    let stored = c.self.invariant.stored in
    let settled = c.self.invariant.settled_first in
    let size = moves_length _ fields.moved.items stored in
    rw (c.split_at.ensures.back, c.deref.ensures.value, ← c.self.view_is)
    (unconfirmed_behind fields.orders.items (reverse fields.replies.items) fields.settled (omega (arith, settled.within)) (λ k lt. rw stored.moves at (settled.all k lt)))

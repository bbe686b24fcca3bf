use Rattle.std.proofs.Common.{ℕ, ◌+◌, ap, arith, length-append, ◌∙◌}
use Rattle.std.proofs.lemmas.List.{length-replicate}
use Rattle.cns_movements.specs.OpenShares.{asked_by, open_in}
use Rattle.cns_movements.specs.declared.order.MoveKind.{MoveKind}
use Rattle.cns_movements.proofs.OpenLemmas.{open_most, open_ordered}
use Rattle.cns_movements.proofs.OrderLemmas.{length-numbered}
use Rattle.cns_movements.proofs.BookLemmas.{settled_by_asks, stored_asks}
use Rattle.cns_movements.proofs.book.OrderBook.issue.Goals as goal

pub ask_all-requires-clause-small : goal.ask_all-requires-clause-small
ask_all-requires-clause-small c = λ k m i.
    let stored = c.self.invariant.stored in
    omega (arith, stored.lawful.few, open_most (open_in c.self.inside.sums) _ stored.lawful c.self.invariant.summed k m i, c.make_room.ensures.shares k m i)

pub invariant_of-self-2 : goal.invariant_of-self-2
invariant_of-self-2 c =
    let stored = c.self.invariant.stored in
    let room = c.make_room.ensures in
    let adds = λ (k : MoveKind) (m i : ℕ). c.ask_all.ensures.shares k m i ∙ ap (λ n. n + asked_by k m i c.args.asks.now) (room.shares k m i) in
    rw (c.append.ensures.orders, c.append.ensures.moved, room.orders, room.moved)
    (record {
      stored = stored_asks _ c.self.inside.moved.items c.args.cycle c.args.asks.now stored (omega arith);
      settled_first = settled_by_asks _ _ _ c.self.invariant.settled_first;
      summed = open_ordered (open_in c.self.inside.sums) (open_in c.ask_all.new.sums) _ c.args.cycle c.args.asks.now stored.lawful c.self.invariant.summed adds c.ask_all.ensures.most;
    })

pub returns-clause-order_room : goal.returns-clause-order_room
returns-clause-order_room c =
    rw (← c.self.view_is, c.append.ensures.orders, c.append.ensures.moved, c.make_room.ensures.orders, c.make_room.ensures.moved)
    (simp (length-append, length-numbered, length-replicate) (omega (arith, c.append.ensures.orders_capacity, c.append.ensures.moved_capacity, c.make_room.ensures.orders_capacity, c.make_room.ensures.moved_capacity)))

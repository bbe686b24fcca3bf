use Rattle.std.proofs.Common.{◌≡◌, ◌≤◌, Some, None, arith, ap, sym, ◌∙◌, reverse, rules}
use Rattle.std.proofs.lemmas.List.{reverse-append}
use Rattle.cns_movements.specs.Book.{OrderRoom}
use Rattle.cns_movements.specs.Order.{order_of, moved_of}
use Rattle.cns_movements.proofs.OrderLemmas.{place_of_found}
use Rattle.cns_movements.specs.OpenShares.{open_in}
use Rattle.cns_movements.proofs.OpenLemmas.{open_confirmed, open_has}
use Rattle.cns_movements.proofs.BookLemmas.{moves_length, settled_by_reply, stored_reply}
use Rattle.cns_movements.proofs.book.OrderBook.confirm.Goals as goal

pub index_mut-requires : goal.index_mut-requires
index_mut-requires c =
    let fields = c.self.inside in
    let found : order_of fields.orders.items c.args.reply.number ≡ Some c.in-Some.order =
    ap (λ (v : OrderRoom). order_of v.book.orders c.args.reply.number) c.self.view_is ∙ sym c.in-Some.ensures.order in
    let size = moves_length _ fields.moved.items c.self.invariant.stored in
    let place = place_of_found fields.orders.items c.args.reply.number c.place.result c.in-Some.order c.self.invariant.stored.lawful.numbered c.place.ensures found in
    search (rules, size, place)

pub settle-requires : goal.settle-requires
settle-requires c =
    let fields = c.self.inside in
    let found : order_of fields.orders.items c.args.reply.number ≡ Some c.in-Some.order =
    ap (λ (v : OrderRoom). order_of v.book.orders c.args.reply.number) c.self.view_is ∙ sym c.in-Some.ensures.order in
    let first : moved_of (reverse fields.replies.items) c.args.reply.number ≡ None =
    ap (λ (v : OrderRoom). moved_of v.book.replies c.args.reply.number) c.self.view_is ∙ sym c.in_default-confirmed.ensures.moved in
    open_has (open_in fields.sums) _ c.args.reply c.in-Some.order c.self.invariant.stored.lawful c.self.invariant.summed found first

pub invariant_of-self-2 : goal.invariant_of-self-2
invariant_of-self-2 c =
    let fields = c.self.inside in
    let found : order_of fields.orders.items c.args.reply.number ≡ Some c.in-Some.order =
    ap (λ (v : OrderRoom). order_of v.book.orders c.args.reply.number) c.self.view_is ∙ sym c.in-Some.ensures.order in
    let first : moved_of (reverse fields.replies.items) c.args.reply.number ≡ None =
    ap (λ (v : OrderRoom). moved_of v.book.replies c.args.reply.number) c.self.view_is ∙ sym c.in_default-confirmed.ensures.moved in
    let within : c.args.reply.moved ≤ c.in-Some.order.asked = omega arith in
    rw (c.in_ok-push.ensures.items, reverse-append)
    (record {
      stored = stored_reply _ fields.moved.items c.args.reply c.in-Some.order c.place.result c.self.invariant.stored c.place.ensures found first within;
      settled_first = rw c.deref.ensures.value at c.settled_from-self-inside.ensures;
      summed = open_confirmed (open_in fields.sums) (open_in c.settle.new.sums) _ c.args.reply c.in-Some.order c.self.invariant.stored.lawful c.self.invariant.summed found first c.settle.ensures.shares;
    })

pub settled_from-self-inside-requires : goal.settled_from-self-inside-requires
settled_from-self-inside-requires c = rw c.deref.ensures.value (settled_by_reply _ _ _ _ c.self.invariant.settled_first)

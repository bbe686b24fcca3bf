use Rattle.std.proofs.Common.{◌≡◌, ◌++◌, ◌∷◌, [], false, Some, rules}
use Rattle.cns_movements.specs.Order.{order_of}
use Rattle.cns_wire.specs.Frame.{order_frame}
use Rattle.cns_clearing.specs.Books.{order_book_of}
use Rattle.cns_system.specs.World.{World, order_spelt}
use Rattle.cns_system.proofs.LinkComes.{frames_sent, send_down, send_short, send_unknown, sent, spells_order}
use Rattle.cns_system.proofs.pair.Pair.send.Goals as goal
use Rattle.cns_system.proofs.pair.Pair.send.Goals.{in-Ok, in-Err}

pub returns-then-is_down : goal.returns-then-is_down
returns-then-is_down g c =
    send_down c.args.number c.args.self.now (search rules)

pub returns-in_default : goal.returns-in_default
returns-in_default g c =
    send_unknown c.args.number c.args.self.now (search rules) (search rules)

pub invariant_of-self : goal.invariant_of-self
invariant_of-self g c = elim c.match-put.branch [
  | in-Ok w ↦
      let put : c.put.new.self.packets ≡ c.self.inside.orders.packets ++ order_frame c.in-Some.order ∷ [] = search rules in
      let spells : order_spelt (order_frame c.in-Some.order) ≡ Some c.in-Some.order = spells_order c.in-Some.order (rw (c.write_order.ensures.text) at c.write_order.ensures.back) in
      frames_sent c.self.inside.orders.packets c.self.inside.replies.packets c.put.new.self.packets c.in-Some.order c.self.invariant put spells
  | in-Err w ↦ rw (w.in-Err.ensures.err) c.self.invariant
]

pub returns : goal.returns
returns g c =
    let old : World = record { clear = c.self.inside.clear; depot = c.self.inside.depot; order_packets = c.self.inside.orders.packets; reply_packets = c.self.inside.replies.packets } in
    let up : old.clear.clear.log.down ≡ false = search rules in
    let found : order_of (order_book_of old.clear.clear.log.records).orders c.args.number ≡ Some c.in-Some.order = search rules in
    elim c.match-put.branch [
      | in-Ok w ↦
          let put : c.put.new.self.packets ≡ c.self.inside.orders.packets ++ order_frame c.in-Some.order ∷ [] = search rules in
          let spells : order_spelt (order_frame c.in-Some.order) ≡ Some c.in-Some.order = spells_order c.in-Some.order (rw (c.write_order.ensures.text) at c.write_order.ensures.back) in
          rw (← c.self.view_is, w.result-is) (sent c.args.number c.in-Some.order w.in-Ok.packet c.put.new.self.packets old up found put w.in-Ok.ensures.number spells)
      | in-Err w ↦ rw (← c.self.view_is, w.result-is, w.in-Err.ensures.err) (send_short c.args.number c.in-Some.order old up found)
    ]

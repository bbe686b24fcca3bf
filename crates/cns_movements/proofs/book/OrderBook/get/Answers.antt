use Rattle.std.proofs.Common.{arith}
use Rattle.std.proofs.lemmas.Grind.{common_steps}
use Rattle.std.proofs.lemmas.Option.{gets}
use Rattle.cns_movements.proofs.OrderLemmas.{order_at}
use Rattle.cns_movements.proofs.book.OrderBook.get.Goals as goal

pub returns-clause-order : goal.returns-clause-order
returns-clause-order c =
    let at = order_at c.self.inside.orders.items c.args.number c.place.result c.self.invariant.stored.lawful.numbered c.place.ensures in
    rw (← c.self.view_is, ← at) (grind (arith, common_steps, gets))

use Rattle.std.proofs.Common.{arith}
use Rattle.std.proofs.lemmas.Grind.{common_steps}
use Rattle.std.proofs.lemmas.Option.{gets}
use Rattle.cns_movements.proofs.BookLemmas.{moved_at}
use Rattle.cns_movements.proofs.book.OrderBook.confirmed.Goals as goal

pub returns-clause-moved : goal.returns-clause-moved
returns-clause-moved c =
    let at = moved_at _ c.self.inside.moved.items c.args.number c.place.result c.self.invariant.stored c.place.ensures in
    rw (← c.self.view_is, ← at) (grind (arith, common_steps, gets))

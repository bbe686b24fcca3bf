use Rattle.cns_allocate.proofs.PlanLemmas.{bounded_longs}
use Rattle.cns_clearing.proofs.books.Books.plan.Goals as goal

pub of-requires : goal.of-requires
of-requires c =
    let sound = rw (← c.self.view_is) at c.requires in
    record { long = bounded_longs c.self.inside.book.history _ sound.netted sound.bounded }

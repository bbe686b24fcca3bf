use Rattle.std.proofs.Common.{◌∷◌, ◌∙◌}
use Rattle.cns_netting.specs.declared.entry.NetEntry.TheVariants.{Netted}
use Rattle.cns_covers.proofs.BoundLemmas.{bounded_shorts_netted}
use Rattle.cns_covers.proofs.CoverLemmas.{covers_of-rows, rows_of-fit}
use Rattle.cns_clearing.proofs.books.Books.cycle_effects.Goals as goal

pub covers_of_rows-requires : goal.covers_of_rows-requires
covers_of_rows-requires c =
    let sound = rw (← c.self.view_is) at c.requires in
    let h = c.self.inside.book.history in
    rw (c.deref.ensures.value, c.in_ok-rows.ensures.rows, c.put_in_order.ensures.same)
    (rows_of-fit (Netted c.args.id.now.day ∷ h) (bounded_shorts_netted h _ c.args.id.now.day sound.netted sound.bounded))

pub returns-clause-effects : goal.returns-clause-effects
returns-clause-effects c =
    let listed = rw c.put_in_order.ensures.same at c.in_ok-rows.ensures.rows in
    let asks = rw (c.orders.ensures, c.deref.ensures.value, listed) at c.in_ok-asks.ensures in
    let covers = covers_of-rows (Netted c.args.id.now.day ∷ c.self.inside.book.history) c.self.inside.orders.book c.self.inside.exemptions.settings in
    rw (← c.self.view_is) (record { asks = asks ∙ covers; rows = listed })

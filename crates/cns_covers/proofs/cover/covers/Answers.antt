use Rattle.std.proofs.Common.{◌∷◌}
use Rattle.cns_netting.specs.declared.entry.NetEntry.TheVariants.{Netted}
use Rattle.cns_covers.proofs.CoverLemmas.{covers_of-rows, rows_of-fit}
use Rattle.cns_covers.proofs.cover.covers.Goals as goal

pub covers_of_rows-requires : goal.covers_of_rows-requires
covers_of_rows-requires c = rw (c.deref.ensures.value, c.in_ok-rows.ensures) (rows_of-fit (Netted c.args.day ∷ c.args.book.now.history) c.requires.short)

pub returns : goal.returns
returns c =
    let same = covers_of-rows (Netted c.args.day ∷ c.args.book.now.history) c.args.orders.now.book c.args.exemptions.now.settings in
    rw (← same, ← c.in_ok-rows.ensures, ← c.deref.ensures.value) c.covers_of_rows.ensures

use Rattle.std.proofs.Common.{◌∷◌, ◌∙◌}
use Rattle.cns_netting.specs.declared.entry.NetEntry.TheVariants.{Netted}
use Rattle.cns_covers.proofs.CoverLemmas.{covers_of-count}
use Rattle.cns_covers.proofs.cover.cover_count.Goals as goal

pub returns-clause-count : goal.returns-clause-count
returns-clause-count c = c.count_at.ensures.count ∙ covers_of-count (Netted c.args.day ∷ c.args.book.now.history) c.args.orders.now.book c.args.exemptions.now.settings

use Rattle.std.proofs.Common.{◌∙◌, ap}
use Rattle.cns_netting.specs.History.{longs_of}
use Rattle.cns_netting.proofs.KeptLemmas.{kept_longs}
use Rattle.cns_netting.proofs.book.NetBook.longs.Goals as goal

pub returns : goal.returns
returns c = c.totals_of.ensures.longs ∙ kept_longs c.self.invariant c.args.issue ∙ ap (λ b. longs_of b.history c.args.issue) c.self.view_is

use Rattle.std.proofs.Common.{◌∙◌, ap}
use Rattle.cns_netting.specs.History.{shorts_of}
use Rattle.cns_netting.proofs.KeptLemmas.{kept_shorts}
use Rattle.cns_netting.proofs.book.NetBook.shorts.Goals as goal

pub returns : goal.returns
returns c = c.totals_of.ensures.shorts ∙ kept_shorts c.self.invariant c.args.issue ∙ ap (λ b. shorts_of b.history c.args.issue) c.self.view_is

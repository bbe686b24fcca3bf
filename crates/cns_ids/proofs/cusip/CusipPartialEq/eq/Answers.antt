use Rattle.cns_ids.proofs.CusipLemmas.{widened-eq}
use Rattle.cns_ids.proofs.cusip.CusipPartialEq.eq.Goals as goal

pub returns : goal.returns
returns c = let same = widened-eq 9 c.self.inside.number c.other.inside.number in cc

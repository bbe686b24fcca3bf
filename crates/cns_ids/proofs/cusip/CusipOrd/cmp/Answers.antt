use Rattle.cns_ids.proofs.CusipLemmas.{widened-cmp}
use Rattle.cns_ids.proofs.cusip.CusipOrd.cmp.Goals as goal

pub returns : goal.returns
returns c = let same = widened-cmp 9 c.self.inside.number c.other.inside.number in cc

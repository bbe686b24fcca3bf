use Rattle.cns_ids.specs.CusipNumber.{narrowed-widened}
use Rattle.cns_ids.proofs.cusip.CusipHash.hash.Goals as goal

pub returns : goal.returns
returns g c = let back = narrowed-widened 9 c.self.inside.number in cc

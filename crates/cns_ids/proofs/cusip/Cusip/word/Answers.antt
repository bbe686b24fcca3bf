use Rattle.cns_ids.specs.CusipNumber.{narrowed-widened}
use Rattle.cns_ids.proofs.cusip.Cusip.word.Goals as goal

pub returns : goal.returns
returns c = let back = narrowed-widened 9 c.self.inside.number in record { word = cc; wide = cc }

use Rattle.std.proofs.Common.{refl}
use Rattle.cns_depository.proofs.TotalLemmas.{totals_none}
use Rattle.cns_depository.proofs.stock.Stock.new.Goals as goal

pub returns : goal.returns
returns c = totals_none _ _ (λ k. Prim.rw c.new.ensures.empty refl) (λ k. Prim.rw c.new-2.ensures.empty refl)

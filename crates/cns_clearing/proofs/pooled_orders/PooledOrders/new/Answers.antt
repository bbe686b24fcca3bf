use Rattle.std.proofs.Common.{refl}
use Rattle.cns_clearing.proofs.PoolSumLemmas.{pools_none}
use Rattle.cns_clearing.proofs.pooled_orders.PooledOrders.new.Goals as goal

pub invariant_of-result : goal.invariant_of-result
invariant_of-result c = pools_none _ _ c.new.ensures.book (λ i. Prim.rw c.new-2.ensures.empty refl)

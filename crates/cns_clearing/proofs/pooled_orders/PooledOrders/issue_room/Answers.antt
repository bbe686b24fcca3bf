use Rattle.cns_clearing.proofs.PoolSumLemmas.{pools_kept}
use Rattle.cns_clearing.proofs.pooled_orders.PooledOrders.issue_room.Goals as goal

pub invariant_of-self-2 : goal.invariant_of-self-2
invariant_of-self-2 c = pools_kept _ _ _ _ c.self.invariant c.reserve.ensures.entries.2 c.issue_room.ensures.same

use Rattle.std.proofs.Common.{sym, nat_eq}
use Rattle.std.specs.HashMap.{get}
use Rattle.cns_movements.proofs.ConfirmLemmas.{taken_from_done}
use Rattle.cns_clearing.proofs.PoolSumLemmas.{out_has, pools_confirmed, sums_small}
use Rattle.cns_clearing.proofs.pooled_orders.PooledOrders.confirm.Goals as goal

pub settle-requires-clause-covered : goal.settle-requires-clause-covered
settle-requires-clause-covered c = (sums_small _ _ c.in-Some.order.issue c.self.invariant.sums).covered

pub settle-requires-clause-delivered : goal.settle-requires-clause-delivered
settle-requires-clause-delivered c = (sums_small _ _ c.in-Some.order.issue c.self.invariant.sums).delivered

pub settle-requires-clause-out : goal.settle-requires-clause-out
settle-requires-clause-out c = λ delivery.
    let taken = taken_from_done _ _ (rw (← c.self.view_is) at c.requires.first) in
    out_has _ _ _ _ c.self.invariant.sums taken (sym c.in-Some.ensures.order) delivery

pub invariant_of-self : goal.invariant_of-self
invariant_of-self c =
    let taken = taken_from_done _ _ (rw (← c.self.view_is) at c.requires.first) in
    rw c.take.ensures
    (pools_confirmed _ (λ i. get nat_eq c.settle.new.pools i) _ _ _ c.self.invariant taken (sym c.in-Some.ensures.order) c.settle.ensures.covered c.settle.ensures.delivered c.settle.ensures.out c.settle.ensures.named)

use Rattle.std.proofs.Common.{arith, nat_eq}
use Rattle.std.specs.HashMap.{get}
use Rattle.cns_clearing.proofs.BooksLemmas.{numbers_suffice}
use Rattle.cns_clearing.proofs.PoolSumLemmas.{pools_ordered, sums_small}
use Rattle.cns_clearing.proofs.pooled_orders.PooledOrders.issue.Goals as goal

pub ask_all-requires-clause-small : goal.ask_all-requires-clause-small
ask_all-requires-clause-small c = λ i.
    let few = numbers_suffice c.self.inside.orders.book c.args.asks.now c.self.invariant.sums.lawful.few (rw (← c.self.view_is) at c.requires.numbers) in
    let small = sums_small _ _ i c.self.invariant.sums in
    omega (arith, small.out, few)

pub invariant_of-self : goal.invariant_of-self
invariant_of-self c =
    let enough = rw (← c.self.view_is) at c.requires.numbers in
    rw c.append.ensures
    (pools_ordered _ (λ i. get nat_eq c.ask_all.new.pools i) _ c.args.cycle c.args.asks.now c.self.invariant enough c.ask_all.ensures.covered c.ask_all.ensures.delivered c.ask_all.ensures.out c.ask_all.ensures.named c.ask_all.ensures.most)

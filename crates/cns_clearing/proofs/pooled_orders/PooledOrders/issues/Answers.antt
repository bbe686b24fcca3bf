use Rattle.std.proofs.Common.{◌∙◌}
use Rattle.cns_clearing.proofs.IssueLemmas.{issues_by_keys}
use Rattle.cns_clearing.proofs.pooled_orders.PooledOrders.issues.Goals as goal

pub returns : goal.returns
returns c =
    let found = c.in_ok-issues.issues.items in
    rw (← c.self.view_is)
    (issues_by_keys found _ c.self.inside.orders.book.orders c.in_ok-issues.ensures.once (λ i. c.in_ok-issues.ensures.named i ∙ c.self.invariant.named i) c.sort_unstable.ensures.permutation c.sort_unstable.ensures.sorted)

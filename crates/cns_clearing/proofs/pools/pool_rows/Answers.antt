use Rattle.std.proofs.Common.{◌≡◌, ◌∙◌, [], sym, ap}
use Rattle.cns_clearing.specs.Pools.{issues_of}
use Rattle.cns_clearing.proofs.pools.pool_rows.Goals as goal

pub returns-then-is_empty : goal.returns-then-is_empty
unfolding issues_of
returns-then-is_empty c =
    let none : c.args.orders.now.book.orders ≡ [] = ap (λ b. b.orders) (sym c.book.ensures) ∙ c.is_empty.ensures.0 c.if-is_empty.true in
    rw (c.new-rows.ensures.items, none)

use Rattle.std.proofs.Common.{ℕ, Option, nat_eq, rules}
use Rattle.std.specs.HashMap.{get}
use Rattle.std.specs.HashMap.Entry.{map_with_value}
use Rattle.cns_movements.specs.Order.{is_cover, is_delivery}
use Rattle.cns_clearing.specs.declared.pool_sums.PoolSums.{PoolSums}
use Rattle.cns_clearing.proofs.PoolSumLemmas.{put_adds, put_named, put_takes, sums_found}
use Rattle.cns_clearing.proofs.pool_sums.settle.Goals as goal

pub settled-requires : goal.settled-requires
settled-requires c =
    let was = sums_found _ _ _ c.or_insert-sums.ensures.value c.in-Ok.ensures.value in
    rw was (record { covered = c.requires.covered; delivered = c.requires.delivered; out = c.requires.out })

pub returns : goal.returns
returns c =
    let order = c.args.order.now in
    let w = c.settled.result in
    let old : ℕ → Option PoolSums = get nat_eq c.args.pools.now in
    let new : ℕ → Option PoolSums = get nat_eq (map_with_value c.in-Ok.entry w) in
    let puts = (c.in-Ok.ensures.update.0 w).0 in
    let was = sums_found (old order.issue) _ _ c.or_insert-sums.ensures.value c.in-Ok.ensures.value in
    let covered = put_adds (λ (s : PoolSums). s.covered) (is_cover order.kind) c.args.moved order.issue w old new puts (rw was at c.settled.ensures.covered) in
    let delivered = put_adds (λ (s : PoolSums). s.delivered) (is_delivery order.kind) c.args.moved order.issue w old new puts (rw was at c.settled.ensures.delivered) in
    let out = put_takes (λ (s : PoolSums). s.out) (is_delivery order.kind) order.asked order.issue w old new puts (rw was at c.settled.ensures.out) in
    let named = put_named order.issue w old new puts in
    record { covered = λ i. search (rules, covered i); delivered = λ i. search (rules, delivered i); out = λ i. search (rules, out i); named = λ i. search (rules, named i) }

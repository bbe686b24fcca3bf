use Rattle.std.proofs.Common.{ℕ, Option, ap, nat_eq, rules, true}
use Rattle.std.specs.HashMap.{get}
use Rattle.std.specs.HashMap.Entry.{map_with_value}
use Rattle.cns_clearing.specs.declared.pool_sums.PoolSums.{PoolSums}
use Rattle.cns_clearing.proofs.PoolSumLemmas.{put_adds, put_named, put_same, sums_found}
use Rattle.cns_clearing.proofs.pool_sums.ask.Goals as goal

pub asked_by-requires : goal.asked_by-requires
asked_by-requires c = rw (sums_found _ _ _ c.or_insert-sums.ensures.value c.in-Ok.ensures.value) c.requires.small

pub returns : goal.returns
returns c =
    let w = c.asked_by.result in
    let old : ℕ → Option PoolSums = get nat_eq c.args.pools.now in
    let new : ℕ → Option PoolSums = get nat_eq (map_with_value c.in-Ok.entry w) in
    let puts = (c.in-Ok.ensures.update.0 w).0 in
    let asked = rw (sums_found (old c.args.issue) _ _ c.or_insert-sums.ensures.value c.in-Ok.ensures.value) at c.asked_by.ensures in
    let covered = put_same (λ (s : PoolSums). s.covered) c.args.issue w old new puts (ap (λ (s : PoolSums). s.covered) asked) in
    let delivered = put_same (λ (s : PoolSums). s.delivered) c.args.issue w old new puts (ap (λ (s : PoolSums). s.delivered) asked) in
    let out = put_adds (λ (s : PoolSums). s.out) true c.args.asked c.args.issue w old new puts (ap (λ (s : PoolSums). s.out) asked) in
    let named = put_named c.args.issue w old new puts in
    record { covered = λ i. search (rules, covered i); delivered = λ i. search (rules, delivered i); out = λ i. search (rules, out i); named = λ i. search (rules, named i); left = search rules }

use Rattle.std.proofs.Common.{◌≡◌, ℕ, ◌+◌, ◌*◌, ◌^◌, ◌<◌, ◌≤◌, nat_eq, length}
use Rattle.std.specs.Prelude.{◌||◌, is_some, sum_by, true, IfSome}
use Rattle.std.specs.HashMap.{get, spare}
use Rattle.cns_movements.specs.declared.order.Ask.{Ask}
use Rattle.cns_clearing.specs.Pools.{asked_of_pool}
use Rattle.cns_clearing.specs.PoolSums.{asks_for, sums_at}
use Rattle.cns_clearing.proofs.pool_sums.ask_all.Given as goal

abbrev pub invariant-loop-first : goal.invariant-loop-first
invariant-loop-first l = record {
  room : length l.left ≤ spare l.pools;
  covered : (i : ℕ) → (sums_at (get nat_eq l.pools i)).covered ≡ (sums_at (get nat_eq l.fn.pools i)).covered;
  delivered : (i : ℕ) → (sums_at (get nat_eq l.pools i)).delivered ≡ (sums_at (get nat_eq l.fn.pools i)).delivered;
  out : (i : ℕ) → (sums_at (get nat_eq l.pools i)).out + asked_of_pool i l.left ≡ (sums_at (get nat_eq l.fn.pools i)).out + asked_of_pool i l.fn.asks;
  named : (i : ℕ) → (is_some (get nat_eq l.pools i) || asks_for i l.left) ≡ (is_some (get nat_eq l.fn.pools i) || asks_for i l.fn.asks);
  last : IfSome l.last (λ i. is_some (get nat_eq l.pools i) ≡ true);
  small : (i : ℕ) → (sums_at (get nat_eq l.pools i)).out + 10 ^ 18 * length l.left < 2 ^ 128;
  most : sum_by (λ (a : Ask). a.asked) l.fn.asks + 10 ^ 18 * length l.left ≤ 10 ^ 18 * length l.fn.asks + sum_by (λ (a : Ask). a.asked) l.left;
}

abbrev pub decreases-loop-first : goal.decreases-loop-first
decreases-loop-first l = length l.left

use Rattle.std.proofs.Common.{◌≡◌, ℕ, ◌+◌, ◌*◌, ◌^◌, ◌<◌, ◌≤◌, length}
use Rattle.std.specs.Prelude.{sum_by}
use Rattle.std.specs.HashMap.{spare}
use Rattle.cns_movements.specs.OpenShares.{asked_by, open_in}
use Rattle.cns_movements.specs.declared.order.Ask.{Ask}
use Rattle.cns_movements.specs.declared.order.MoveKind.{MoveKind}
use Rattle.cns_movements.proofs.open_shares.ask_all.Given as goal

abbrev pub invariant-loop-first : goal.invariant-loop-first
invariant-loop-first l = record {
  room : length l.left ≤ spare l.sums;
  left : spare l.fn.sums + length l.left ≤ spare l.sums + length l.fn.asks;
  shares : (k : MoveKind) (m i : ℕ) → open_in l.sums k m i + asked_by k m i l.left ≡ open_in l.fn.sums k m i + asked_by k m i l.fn.asks;
  small : (k : MoveKind) (m i : ℕ) → open_in l.sums k m i + 10 ^ 18 * length l.left < 2 ^ 128;
  most : sum_by (λ (a : Ask). a.asked) l.fn.asks + 10 ^ 18 * length l.left ≤ 10 ^ 18 * length l.fn.asks + sum_by (λ (a : Ask). a.asked) l.left;
}

abbrev pub decreases-loop-first : goal.decreases-loop-first
decreases-loop-first l = length l.left

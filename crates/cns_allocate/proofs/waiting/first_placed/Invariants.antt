use Rattle.std.proofs.Common.{◌≡◌, ◌≤◌, ◌-◌, drop, length}
use Rattle.cns_allocate.specs.Waiting.{placed}
use Rattle.cns_allocate.proofs.waiting.first_placed.Given as goal

abbrev pub invariant-loop-place : goal.invariant-loop-place
invariant-loop-place l = record {
  within : l.place ≤ length l.plan;
  left : placed l.places (drop l.place l.plan) ≡ placed l.places (drop l.start l.plan);
}

abbrev pub decreases-loop-place : goal.decreases-loop-place
decreases-loop-place l = length l.plan - l.place

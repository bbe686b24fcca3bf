use Rattle.std.proofs.Common.{length, ◌-◌, ◌≡◌, ◌+◌}
use Rattle.cns_allocate.specs.Serving.{places_of, asked_in_plan}
use Rattle.cns_allocate.proofs.seats.Needs.of.Given as goal

abbrev pub invariant-loop-place : goal.invariant-loop-place
invariant-loop-place l = record {
  shares : l.left + asked_in_plan (places_of l.workers l.worker l.group) ≡ l.budget + asked_in_plan (places_of l.workers l.place l.group);
  calls : l.calls + length (places_of l.workers l.place l.group) ≡ length (places_of l.workers l.worker l.group);
}

abbrev pub decreases-loop-place : goal.decreases-loop-place
decreases-loop-place l = length l.group - l.place

use Rattle.std.proofs.Common.{length, ◌-◌, ◌≡◌, ◌≤◌}
use Rattle.cns_pool.specs.WorkerSeat.{WorkerState}
use Rattle.cns_allocate.specs.Serving.{HasDrawn, places_of, asked_in_plan}
use Rattle.cns_allocate.proofs.seats.draw.Given as goal

abbrev pub invariant-loop-place : goal.invariant-loop-place
invariant-loop-place g l = record {
  cell : l.seat.cell ≡ l.cell;
  goes_on : (new : WorkerState) → HasDrawn l.seat (places_of l.workers l.place l.group) new → HasDrawn l.fn.seat (places_of l.workers l.worker l.group) new;
  budget : asked_in_plan (places_of l.workers l.place l.group) ≤ l.seat.budget;
  calls : length (places_of l.workers l.place l.group) ≤ l.seat.calls;
}

abbrev pub decreases-loop-place : goal.decreases-loop-place
decreases-loop-place g l = length l.group - l.place

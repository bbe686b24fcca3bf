use Rattle.std.proofs.Common.{◌≡◌, ◌+◌, ◌-◌, ◌≤◌, false, length, take, drop}
use Rattle.cns_allocate.specs.Serving.{FollowPlanByStart, asked_in_plan}
use Rattle.cns_allocate.proofs.serving.serve_groups.Given as goal

abbrev pub invariant-loop-served : goal.invariant-loop-served
invariant-loop-served g l = record {
  within : l.served ≤ length l.plan;
  cell : l.seat.cell ≡ l.cell;
  given : l.seat.given ≡ l.fn.seat.given;
  made : l.seat.made + l.seat.calls ≡ l.fn.seat.made + l.fn.seat.calls;
  budget : asked_in_plan (drop l.served l.plan) ≤ l.seat.budget;
  calls : length l.plan ≤ l.seat.calls + l.served;
  sealed : l.seat.seen.sealed ≡ l.fn.seat.seen.sealed;
  follow : FollowPlanByStart (take l.served l.plan) l.seat.tickets false;
}

abbrev pub decreases-loop-served : goal.decreases-loop-served
decreases-loop-served g l = length l.plan - l.served

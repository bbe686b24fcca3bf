use Rattle.std.proofs.Common.{◌≡◌, ◌+◌, ◌≤◌}
use Rattle.cns_allocate.specs.Serving.{HasJoined, rooms_of}
use Rattle.cns_allocate.proofs.seats.join_seats.Given as goal

abbrev pub invariant-loop-other : goal.invariant-loop-other
invariant-loop-other l = record {
  next : (goal.iterator-loop-other).can_next l.other-iterator;
  finite : (goal.iterator-loop-other).is_finite l.other-iterator;
  joined : HasJoined l.fn.seat l.yielded l.seat;
  cell : l.seat.cell ≡ l.cell;
  room : l.fn.seat.room ≤ l.seat.room + rooms_of l.yielded;
}

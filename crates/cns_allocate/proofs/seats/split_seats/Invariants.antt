use Rattle.std.proofs.Common.{◌≡◌, ℕ, ◌-◌, ◌<◌, ◌≤◌, length, get_or, vec_capacity}
use Rattle.cns_pool.specs.WorkerSeat.{EndWithin, WorkerState}
use Rattle.cns_allocate.specs.Serving.{HasSplit, budgets_of, calls_of_workers, places_of, asked_in_plan}
use Rattle.cns_allocate.proofs.DealLemmas.{dealt}
use Rattle.cns_allocate.proofs.seats.split_seats.Given as goal

abbrev pub invariant-loop-worker : goal.invariant-loop-worker
invariant-loop-worker l = record {
  split : HasSplit l.fn.seat l.seats.items l.seat;
  count : length l.seats.items ≡ l.worker;
  room : l.workers ≤ vec_capacity l.seats;
  budgets : budgets_of l.seats.items ≡ asked_in_plan (dealt (l.workers - 1) l.worker l.group);
  counts : calls_of_workers l.seats.items ≡ length (dealt (l.workers - 1) l.worker l.group);
  budget : (i : ℕ) (d : WorkerState) → i < l.worker → asked_in_plan (places_of l.workers i l.group) ≤ (get_or l.seats.items i d).budget;
  calls : (i : ℕ) (d : WorkerState) → i < l.worker → length (places_of l.workers i l.group) ≤ (get_or l.seats.items i d).calls;
  ends : 0 < l.worker → EndWithin l.fn.seat.seen.asked l.fn.seat.tickets;
}

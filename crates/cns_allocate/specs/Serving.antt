-- How a plan is served by several workers (this project's own rules).
use Rattle.std.specs.Prelude.{◌≡◌, ℕ, zero, suc, ◌+◌, ◌-◌, ◌<◌, ◌≤◌, Bool, true, ◌||◌, List, [], ◌∷◌, ◌++◌, length, sum_by, All, IsPermutation}
use Rattle.std.specs.List.{flat_map, list_any}
use Rattle.std.specs.List.Sorted.{IsNonDecreasingBy}
use Rattle.cns_pool.specs.declared.ticket.Ticket.{Ticket}
use Rattle.cns_pool.specs.WorkerSeat.{WorkerState, calls_out, room_taken, split_off}
use Rattle.cns_allocate.specs.Served.{AreDrawnOf, FollowPlan}
use Rattle.cns_allocate.specs.declared.planned.Planned.{Planned}

-- those of some planned that stand at the place k, and from there on those that come after each `gap` others
abbrev pub every : ℕ → ℕ → List Planned → List Planned
every gap k [] = []
every gap zero (p ∷ ps) = p ∷ every gap gap ps
every gap (suc k) (p ∷ ps) = every gap k ps

-- the planned of a group that a worker draws for: those at the places `worker`, `worker + workers` and so on
abbrev pub places_of : ℕ → ℕ → List Planned → List Planned
places_of workers worker group = every (workers - 1) worker group

-- how many shares they ask for
abbrev pub asked_in_plan : List Planned → ℕ
asked_in_plan planned = sum_by (λ (p : Planned). p.asked) planned

-- the budgets, the calls left, the calls made and the tickets of some seats, and whether one of them has seen the seal
abbrev pub budgets_of : List WorkerState → ℕ
budgets_of seats = sum_by (λ (seat : WorkerState). seat.budget) seats

abbrev pub calls_of_workers : List WorkerState → ℕ
calls_of_workers seats = sum_by (λ (seat : WorkerState). seat.calls) seats

abbrev pub made_by : List WorkerState → ℕ
made_by seats = sum_by (λ (seat : WorkerState). seat.made) seats

abbrev pub tickets_of : List WorkerState → List Ticket
tickets_of seats = flat_map (λ (seat : WorkerState). seat.tickets) seats

abbrev pub have_seen_seal : List WorkerState → Bool
have_seen_seal seats = list_any (λ (seat : WorkerState). seat.seen.sealed) seats

-- the room that they take where they are joined
abbrev pub rooms_of : List WorkerState → ℕ
rooms_of seats = sum_by room_taken seats

-- by start, tickets follow a plan
pub record FollowPlanByStart (plan : List Planned) (tickets : List Ticket) (sealed : Bool) : Type 0 where
  pub sorted : List Ticket
  pub permutation : IsPermutation tickets sorted
  pub by_start : IsNonDecreasingBy (λ (t : Ticket). t.start) sorted
  pub follows : FollowPlan plan sorted sealed

-- what a seat has once it drew tickets for some of the planned, or met the seal before all of them had one
pub record HasDrawn (old : WorkerState) (planned : List Planned) (new : WorkerState) : Type 0 where
  pub cell : new.cell ≡ old.cell
  pub given : new.given ≡ old.given
  pub tickets : List Ticket
  pub added : new.tickets ≡ old.tickets ++ tickets
  pub drawn : AreDrawnOf planned tickets
  pub after : All (λ (t : Ticket). old.seen.asked ≤ t.start) tickets
  pub made : new.made + new.calls ≡ old.made + old.calls
  pub used : length tickets + new.calls ≤ old.calls
  pub calls : old.calls ≤ new.calls + length planned
  pub budget : old.budget ≤ new.budget + asked_in_plan planned
  pub all : length tickets ≡ length planned → new.seen.sealed ≡ old.seen.sealed
  pub met : length tickets < length planned → new.seen.sealed ≡ true

-- what a seat has once these seats, without tickets, were split off
pub record HasSplit (old : WorkerState) (parts : List WorkerState) (new : WorkerState) : Type 0 where
  pub each : All (λ (part : WorkerState). part ≡ split_off old part.budget part.calls) parts
  pub budget : budgets_of parts ≤ old.budget
  pub calls : calls_of_workers parts ≤ old.calls
  pub rest : new ≡ record old { budget = old.budget - budgets_of parts; calls = old.calls - calls_of_workers parts; room = old.room + calls_of_workers parts }

-- what a seat has once these seats were joined into it
pub record HasJoined (old : WorkerState) (others : List WorkerState) (new : WorkerState) : Type 0 where
  pub cell : new.cell ≡ old.cell
  pub given : new.given ≡ old.given
  pub tickets : new.tickets ≡ old.tickets ++ tickets_of others
  pub budget : new.budget ≡ old.budget + budgets_of others
  pub calls : new.calls ≡ old.calls + calls_of_workers others
  pub made : new.made ≡ old.made + made_by others
  pub sealed : new.seen.sealed ≡ (old.seen.sealed || have_seen_seal others)

-- what serving a plan leaves of a seat that had no ticket: it is of the same cell, as many calls are out, and by start its tickets
-- follow the plan
pub record Serves (plan : List Planned) (old new : WorkerState) (sealed : Bool) : Type 0 where
  pub cell : new.cell ≡ old.cell
  pub out : calls_out new ≡ calls_out old
  pub follow : FollowPlanByStart plan new.tickets sealed

-- How the data of a seat stand for what contracts see of it, and agree with its view.
use Rattle.std.specs.Prelude.{◌≡◌, ℕ, ◌+◌, ◌≤◌, true, [], length}
use Rattle.cns_pool.specs.declared.view.View.{View}
use Rattle.cns_pool.specs.declared.pool.TheConstants.{MAX_POOL}
use Rattle.cns_pool.specs.declared.worker_seat.WorkerSeat.TheInside.{Inside as WorkerData}
use Rattle.cns_pool.specs.declared.feeder_seat.FeederSeat.TheInside.{Inside as FeederData}
use Rattle.cns_pool.specs.Pool.{intervals_of}
use Rattle.cns_pool.specs.WorkerSeat.{WorkerState, EndWithin}
use Rattle.cns_pool.specs.FeederSeat.{FeederState}
use Rattle.cns_pool.specs.CellWords.{Token, no_view}

-- a worker's seat that is stored
abbrev pub worker_of : WorkerData → WorkerState
worker_of seat = record {
  cell = seat.token.table_id;
  tickets = seat.tickets.items;
  budget = seat.budget;
  calls = seat.calls;
  made = seat.made;
  given = seat.given;
  room = seat.room;
  seen = seat.token.me.0.seen;
}

-- a feeder's seat that is stored
abbrev pub feeder_of : FeederData → FeederState
feeder_of seat = record {
  cell = seat.token.table_id;
  poured = seat.poured;
  pour_room = seat.pour_room;
  sealed = seat.sealed;
  seen = seat.token.me.0.seen;
}

-- the view of a worker
abbrev pub worker_view : WorkerState → View
worker_view worker = record no_view { works = true; intervals = intervals_of worker.tickets; budget = worker.budget; calls = worker.calls; made = worker.made; given = worker.given; seen = worker.seen }

-- the view of a feeder
abbrev pub feeder_view : FeederState → View
feeder_view feeder = record no_view { feeds = true; poured = feeder.poured; pour_room = feeder.pour_room; sealed = feeder.sealed; seen = feeder.seen }

-- the token has the worker's view; no call is made twice; there is room for the tickets to come; and the tickets end within what was seen
pub record IsWorker (token : Token) (worker : WorkerState) (capacity : ℕ) : Type 0 where
  pub view : token ≡ (worker_view worker, [])
  pub counts : worker.made + worker.calls ≤ worker.given
  pub fits : length worker.tickets + (worker.calls + worker.room) ≤ capacity
  pub ends : EndWithin worker.seen.asked worker.tickets

-- the token has the feeder's view, and what it may still pour keeps to the limit
pub record IsFed (token : Token) (feeder : FeederState) : Type 0 where
  pub view : token ≡ (feeder_view feeder, [])
  pub most : feeder.poured + feeder.pour_room ≤ MAX_POOL

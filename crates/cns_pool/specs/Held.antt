-- A cell with its feeder and one worker, as a pool.
use Rattle.std.specs.Prelude.{◌≡◌, true}
use Rattle.cns_pool.specs.Pool.{Pooled, IsPool}
use Rattle.cns_pool.specs.WorkerSeat.{WorkerState, TableId, calls_out}
use Rattle.cns_pool.specs.FeederSeat.{FeederState}

-- the pool that the two seats are together
abbrev pub pool_of : WorkerState → FeederState → Pooled
pool_of worker feeder = record {
  tickets = worker.tickets;
  poured = feeder.poured;
  sealed = feeder.sealed;
  budget = worker.budget;
  pour_room = feeder.pour_room;
  calls = worker.calls;
}

-- both are seats of the cell, no call is out, the worker has seen a seal, and the pool is lawful
pub record IsHeld (cell : TableId) (worker : WorkerState) (feeder : FeederState) : Type 0 where
  pub worker_cell : worker.cell ≡ cell
  pub feeder_cell : feeder.cell ≡ cell
  pub back : calls_out worker ≡ 0
  pub told : feeder.sealed ≡ true → worker.seen.sealed ≡ true
  pub lawful : IsPool (pool_of worker feeder)

-- A lot as it is stored: which one it is, and what holds of it.
use Rattle.std.specs.Prelude.{◌≤◌, List, length}
use Rattle.cns_pool.specs.Pool.{Pooled}
use Rattle.cns_allocate.specs.Plan.{IsPlan}
use Rattle.cns_allocate.specs.declared.planned.Planned.{Planned}
use Rattle.cns_system.specs.declared.entry.LotEntry.TheInside.{Inside}
use Rattle.cns_system.specs.Lot.{LotState, planned_sum}

-- the lot that is stored
abbrev pub entry_state : Inside → LotState
entry_state e = record { issue = e.issue; turns = e.turns; tickets = e.pool.tickets; sealed = e.pool.sealed; ended = e.ended }

-- those who wait for a ticket, and a pool with room for the tickets of all of them
pub record IsEntry (left : List Planned) (pool : Pooled) : Type 0 where
  pub plan : IsPlan left
  pub budget : planned_sum left ≤ pool.budget
  pub calls : length left ≤ pool.calls

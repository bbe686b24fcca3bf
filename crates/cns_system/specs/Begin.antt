-- A lot that workers begin to serve (this project's own rules).
use Rattle.std.specs.Prelude.{◌≡◌, ℕ, false, List, [], ◌∷◌, ◌++◌, length}
use Rattle.std.specs.Arc.{arc_value}
use Rattle.cns_pool.specs.FeederSeat.{new_feeder}
use Rattle.cns_pool.specs.WorkerSeat.{new_worker}
use Rattle.cns_allocate.specs.declared.planned.Planned.{Planned}
use Rattle.cns_records.specs.declared.refusal.Refusal.{Refusal}
use Rattle.cns_system.specs.Floor.{BusyLot, BySystem, FloorState}
use Rattle.cns_system.specs.Lot.{planned_sum}
use Rattle.cns_system.specs.Run.{Occurs}
use Rattle.cns_system.specs.declared.event.Event.TheVariants as event
use Rattle.cns_system.specs.declared.floor.Begun.{Begun}
use Rattle.cns_system.specs.declared.floor.NewCell.{NewCell}
use Rattle.cns_system.specs.declared.outcome.Outcome.{Outcome}
use Rattle.cns_system.specs.declared.outcome.Outcome.TheVariants as outcomes
use Rattle.cns_system.specs.declared.numbered.Opened.{Opened}

-- a busy lot with this cell, not sealed, of which nothing asked was seen
abbrev pub new_busy : Begun → BusyLot
new_busy begun = record { lot = begun.lot; cell = arc_value begun.cell; poured = begun.poured; sealed = false; asked = 0 }

-- what is told of a lot that was opened for workers
abbrev pub opened_of : Begun → Opened
opened_of begun = record { number = begun.lot; poured = begun.poured; plan = begun.plan }

-- the lot is opened; its seat is one of its cell without tickets, with just the budget and the calls for the plan; and it is busy with this
-- cell, into which was poured what was poured into the lot
pub record IsBegun (issue : ℕ) (begun : Begun) (old new : FloorState) : Type 0 where
  pub opened : Occurs (event.LotOpen issue) (outcomes.LotOpened (opened_of begun)) old.system new.system
  pub seat : begun.seat ≡ new_worker (arc_value begun.cell) (planned_sum begun.plan) (length begun.plan)
  pub busy : new.busy ≡ old.busy ++ new_busy begun ∷ []

-- an event was refused
abbrev pub IsRefusal : Outcome → Type 0
IsRefusal outcome = (refusal : Refusal) × (outcome ≡ outcomes.Refused refusal)

-- the lot is not opened, and this is why
abbrev pub IsNotBegun : ℕ → Outcome → FloorState → FloorState → Type 0
IsNotBegun issue outcome old new = BySystem (event.LotOpen issue) outcome old new × IsRefusal outcome

-- a new cell for a plan
pub record IsNewCell (plan : List Planned) (cell : NewCell) : Type 0 where
  pub feeder : cell.feeder ≡ new_feeder (arc_value cell.ours) 1000000000000000000
  pub seat : cell.seat ≡ new_worker (arc_value cell.theirs) (planned_sum plan) (length plan)
  pub one : arc_value cell.theirs ≡ arc_value cell.ours

-- what is handed out of an opened lot and a new cell
pub record IsHandedOut (opened : Opened) (begun : Begun) (old new : List BusyLot) : Type 0 where
  pub lot : begun.lot ≡ opened.number
  pub poured : begun.poured ≡ opened.poured
  pub plan : begun.plan ≡ opened.plan
  pub seat : begun.seat ≡ new_worker (arc_value begun.cell) (planned_sum begun.plan) (length begun.plan)
  pub busy : new ≡ old ++ new_busy begun ∷ []

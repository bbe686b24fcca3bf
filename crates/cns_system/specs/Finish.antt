-- A lot whose workers have ended, what they drew entered (this project's own rules).
use Rattle.std.specs.Prelude.{◌≡◌, ◌≢◌, ◌⊎◌, ◌==◌, ◌||◌, ℕ, Bool, true, false, not, List, [], ◌∷◌, ◌++◌, Option, Some, None, Ok, IsPermutation, MatchOption, filter, map}
use Rattle.std.specs.List.{filter_map, list_any}
use Rattle.std.specs.List.Sorted.{IsNonDecreasingBy}
use Rattle.cns_pool.specs.declared.ticket.Ticket.{Ticket}
use Rattle.cns_allocate.specs.Plan.{IsPlan}
use Rattle.cns_allocate.specs.Served.{IsServed}
use Rattle.cns_allocate.specs.declared.planned.Planned.{Planned}
use Rattle.cns_clearing.specs.Pools.{lot_of}
use Rattle.cns_clearing.specs.declared.lot.Lot.{Lot}
use Rattle.cns_records.specs.declared.refusal.Refusal.{Refusal}
use Rattle.cns_records.specs.declared.refusal.Refusal.TheVariants as refusal
use Rattle.cns_system.specs.Begin.{IsRefusal}
use Rattle.cns_system.specs.Floor.{BusyLot, FloorState, busy_at}
use Rattle.cns_system.specs.Lot.{IsPlanOf, LotState}
use Rattle.cns_system.specs.Lots.{ticket_call}
use Rattle.cns_wire.specs.Packet.{at_number}
use Rattle.cns_system.specs.Run.{Occurs, Run}
use Rattle.cns_system.specs.World.{World}
use Rattle.cns_system.specs.declared.event.Event.{Event}
use Rattle.cns_system.specs.declared.event.Event.TheVariants as event
use Rattle.cns_system.specs.declared.outcome.Outcome.{Outcome}
use Rattle.cns_system.specs.declared.outcome.Outcome.TheVariants as outcomes

-- the busy lots without the one of a number
abbrev pub without_busy : ℕ → List BusyLot → List BusyLot
without_busy number busy = filter (λ (b : BusyLot). not (b.lot == number)) busy

-- whether the floor's seat sealed the cell of a busy lot, and of that of a number
abbrev pub is_sealed : Option BusyLot → Bool
is_sealed None = false
is_sealed (Some b) = b.sealed

abbrev pub sealed_at : List BusyLot → ℕ → Bool
sealed_at busy number = is_sealed (busy_at busy number)

-- ---- the tickets

-- the events that enter tickets, and what they come to where each member draws its ticket
abbrev pub reserves : ℕ → List Ticket → List Event
reserves lot tickets = map (λ (t : Ticket). event.Reserve lot t.member) tickets

abbrev pub draws : List Ticket → List Outcome
draws tickets = map (λ (t : Ticket). outcomes.Drawn t) tickets

-- a reserve would draw another ticket than this one
abbrev pub WouldDiffer : ℕ → Ticket → World → Type 0
WouldDiffer lot t w = (other : Ticket) × (other ≢ t) × (ticket_call lot t.member w.clear.lots ≡ Ok other)

-- a ticket is not entered: its reserve is refused; or it would draw another ticket, and does not happen
abbrev pub IsNotEntered : ℕ → Ticket → Refusal → World → World → Type 0
IsNotEntered lot t refused old new =
    Occurs (event.Reserve lot t.member) (outcomes.Refused refused) old new ⊎ ((refused ≡ refusal.BadTickets) × (new ≡ old) × WouldDiffer lot t old)

-- each ticket is entered
pub record AreEntered (lot : ℕ) (tickets : List Ticket) (told : List Outcome) (old new : World) : Type 0 where
  pub told_is : told ≡ draws tickets
  pub drawn : Run (reserves lot tickets) (draws tickets) old new

-- the tickets before one are entered, and that one is not
pub record AreCutOff (lot : ℕ) (tickets : List Ticket) (refused : Refusal) (told : List Outcome) (old new : World) : Type 0 where
  pub first : List Ticket
  pub ticket : Ticket
  pub rest : List Ticket
  pub all : tickets ≡ first ++ ticket ∷ rest
  pub between : World
  pub entered : AreEntered lot first told old between
  pub stopped : IsNotEntered lot ticket refused between new

-- ---- the end of the lot

-- the lot is closed, or is not: this comes of it
abbrev pub IsClosed : ℕ → List Outcome → World → World → Type 0
IsClosed lot told old new = (outcome : Outcome) × (told ≡ outcome ∷ []) × Occurs (event.LotClose lot) outcome old new

-- before that it is sealed; where the seal is refused, the lot is not closed
abbrev pub IsSealedFirst : ℕ → List Outcome → World → World → Type 0
IsSealedFirst lot told old new =
    ((outcome : Outcome) × (told ≡ outcome ∷ []) × IsRefusal outcome × Occurs (event.Seal lot) outcome old new)
    ⊎ ((rest : List Outcome) × (between : World) × (told ≡ outcomes.Done ∷ rest) × Occurs (event.Seal lot) outcomes.Done old between × IsClosed lot rest between new)

abbrev pub IsEnded : ℕ → Bool → List Outcome → World → World → Type 0
IsEnded lot true told old new = IsSealedFirst lot told old new
IsEnded lot false told old new = IsClosed lot told old new

-- ---- all of it

-- tickets are entered one after another, and then the lot ends; or one of them is not entered, and nothing comes after it
abbrev pub AreAllEntered : ℕ → List Ticket → Bool → List Outcome → World → World → Type 0
AreAllEntered lot tickets sealed told old new =
    ((first : List Outcome) × (last : List Outcome) × (between : World) × (told ≡ first ++ last) × AreEntered lot tickets first old between × IsEnded lot sealed last between new)
    ⊎ ((first : List Outcome) × (refused : Refusal) × (told ≡ first ++ outcomes.Refused refused ∷ []) × AreCutOff lot tickets refused first old new)

-- the tickets that are handed in are entered in the order of their starts
pub record IsFinished (lot : ℕ) (handed : List Ticket) (sealed : Bool) (told : List Outcome) (old new : World) : Type 0 where
  pub sorted : List Ticket
  pub same : IsPermutation handed sorted
  pub by_start : IsNonDecreasingBy (λ (t : Ticket). t.start) sorted
  pub entered : AreAllEntered lot sorted sealed told old new

-- what comes of it: nothing of a lot that is not busy
abbrev pub FinishGives : ℕ → List Ticket → Bool → List Outcome → FloorState → World → Type 0
FinishGives lot handed failed told old new =
    MatchOption (busy_at old.busy lot) ((told ≡ []) × (new ≡ old.system)) (λ (b : BusyLot). IsFinished lot handed (failed || b.sealed) told old.system new)

-- a lot of a number is no longer busy: whether the floor's seat sealed its cell, where it was busy
abbrev pub IsReleased : ℕ → Option Bool → FloorState → FloorState → Type 0
IsReleased lot None old new = (busy_at old.busy lot ≡ None) × (new ≡ old)
IsReleased lot (Some sealed) old new =
    ((b : BusyLot) × (busy_at old.busy lot ≡ Some b) × (sealed ≡ b.sealed)) × (new ≡ record old { busy = without_busy lot old.busy })

-- ---- the tickets among the outcomes

-- the ticket that an outcome draws; whether a lot was sealed by an event, and whether one was closed
abbrev pub drawn_by : Outcome → Option Ticket
drawn_by (outcomes.Drawn t) = Some t
drawn_by _ = None

abbrev pub is_done : Outcome → Bool
is_done outcomes.Done = true
is_done _ = false

abbrev pub is_close : Outcome → Bool
is_close (outcomes.Closed _) = true
is_close _ = false

abbrev pub drawn_in : List Outcome → List Ticket
drawn_in told = filter_map drawn_by told

-- the lot of a number has not ended, and is of this issue and of this plan: the plan is that of the clearing node's open lot of the
-- issue, and the one that a first part of the node's records has of the issue
pub record HasPlan (number : ℕ) (w : World) (issue : ℕ) (plan : List Planned) : Type 0 where
  pub lot : LotState
  pub found : at_number w.clear.lots number ≡ Some lot
  pub going : lot.ended ≡ false
  pub issue_is : lot.issue ≡ issue
  pub twin : Lot
  pub twin_is : lot_of w.clear.clear.lots issue ≡ Some twin
  pub plan_is : twin.plan ≡ plan
  pub of : IsPlanOf w.clear.clear.log.records issue plan

-- the tickets that were drawn are those of a lot that may close: they follow the plan of the lot of a number, as far as they go, and
-- stand end to end from 0; each member of the plan has one where the lot was closed and not sealed
pub record AreOfOnePlan (number : ℕ) (w : World) (told : List Outcome) : Type 0 where
  pub issue : ℕ
  pub plan : List Planned
  pub of : HasPlan number w issue plan
  pub is : IsPlan plan
  pub served : IsServed plan (drawn_in told) true
  pub whole : list_any is_close told ≡ true → list_any is_done told ≡ false → IsServed plan (drawn_in told) false

-- the tickets that were drawn are of the plan of the lot of a number; or none was drawn, and the lot was not closed
abbrev pub AreOfLot : ℕ → World → List Outcome → Type 0
AreOfLot number w told = ((drawn_in told ≡ []) × (list_any is_close told ≡ false)) ⊎ AreOfOnePlan number w told

-- nobody drew a ticket of the lot of a number, where it has not ended, and it is not sealed
abbrev pub IsUnserved : ℕ → List LotState → Type 0
IsUnserved n lots = (lot : LotState) → at_number lots n ≡ Some lot → lot.ended ≡ false → (lot.tickets ≡ []) × (lot.sealed ≡ false)

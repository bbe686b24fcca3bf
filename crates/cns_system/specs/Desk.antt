-- What workers drew of a lot, as a desk has it (this project's own rules).
use Rattle.std.specs.Prelude.{◌≡◌, ℕ, ◌<◌, Bool, true, false, List, [], length, Option, Some, None, MatchOption, MatchResult, Result, is_some}
use Rattle.cns_allocate.specs.declared.planned.Planned.{Planned}
use Rattle.cns_allocate.specs.declared.serving.ServeCause.TheVariants as cause
use Rattle.cns_allocate.specs.declared.serving.ServeFault.{ServeFault}
use Rattle.cns_allocate.specs.declared.serving.Served.{Served}
use Rattle.cns_allocate.specs.Serving.{FollowPlanByStart}
use Rattle.cns_system.specs.Begin.{IsRefusal}
use Rattle.cns_system.specs.Finish.{AreOfLot, FinishGives}
use Rattle.cns_system.specs.Floor.{FloorState, IsLawfulFloor}
use Rattle.cns_system.specs.Run.{Occurs}
use Rattle.cns_system.specs.declared.desk.Allocated.{Allocated}
use Rattle.cns_system.specs.declared.desk.Cut.{Cut}
use Rattle.cns_system.specs.declared.desk.Cut.TheVariants as cut
use Rattle.cns_system.specs.declared.desk.Drawn.{Drawn}
use Rattle.cns_system.specs.declared.event.Event.TheVariants as event
use Rattle.cns_system.specs.declared.numbered.Opened.{Opened}
use Rattle.cns_system.specs.declared.outcome.Outcome.{Outcome}
use Rattle.cns_system.specs.declared.outcome.Outcome.TheVariants as outcomes

-- the opening of a lot of an issue came to this in one hold of the lock
pub record IsToldIn (issue : ℕ) (outcome : Outcome) : Type 0 where
  pub old : FloorState
  pub new : FloorState
  pub before : IsLawfulFloor old
  pub after : IsLawfulFloor new
  pub occurs : Occurs (event.LotOpen issue) outcome old.system new.system

-- a lot was opened in one hold of the lock
abbrev pub IsOpenedIn : ℕ → Opened → Type 0
IsOpenedIn issue opened = IsToldIn issue (outcomes.LotOpened opened)

-- no lot was opened in one hold of the lock, and this is why
abbrev pub IsNotOpenedIn : ℕ → Outcome → Type 0
IsNotOpenedIn issue outcome = IsToldIn issue outcome × IsRefusal outcome

-- what workers drew of a lot was entered in one hold of the lock, and came to this; the tickets that were entered are of the lot's plan
pub record IsEnteredIn (lot : ℕ) (drawn : Drawn) (told : List Outcome) : Type 0 where
  pub old : FloorState
  pub new : FloorState
  pub before : IsLawfulFloor old
  pub after : IsLawfulFloor new
  pub gives : FinishGives lot drawn.seat.tickets (is_some drawn.cut) told old new.system
  pub tickets : AreOfLot lot old.system told

-- by start, what the workers of a lot drew follows the plan of its opening; and that was entered
pub record IsServedAs (opened : Opened) (all : Allocated) (drawn : Drawn) : Type 0 where
  pub told : all.opened ≡ outcomes.LotOpened opened
  pub follow : FollowPlanByStart opened.plan drawn.seat.tickets (is_some drawn.cut)
  pub entered : IsEnteredIn opened.number drawn all.entered.items

-- what an allocation answers: a lot that was opened and served; or why none was opened, and then nothing was entered
abbrev pub IsAllocated : ℕ → Allocated → Type 0
IsAllocated issue all =
    MatchOption all.drawn (IsNotOpenedIn issue all.opened × (all.entered.items ≡ [])) (λ (d : Drawn). (opened : Opened) × IsOpenedIn issue opened × IsServedAs opened all d)

-- a seal that a worker met cuts the workers off
abbrev pub cut_by : Bool → Option Cut
cut_by true = Some cut.Sealed
cut_by false = None

-- the seat with the tickets, and what cut the workers off
abbrev pub IsDrawnFrom : Result Served ServeFault → Drawn → Type 0
IsDrawnFrom served drawn =
    MatchResult served
    (λ (s : Served). (drawn.seat ≡ s.seat) × (drawn.cut ≡ cut_by s.sealed))
    (λ (f : ServeFault). (drawn.seat ≡ f.seat) × (drawn.cut ≡ Some (cut.Fault f.cause)))

-- whether it was the seal that cut workers off
abbrev pub is_seal : Option Cut → Bool
is_seal None = false
is_seal (Some cut.Sealed) = true
is_seal (Some (cut.Fault c)) = false

-- some members of a plan have no ticket where a worker met the seal, or memory was wanting
pub record HasTooFew (plan : List Planned) (drawn : Drawn) : Type 0 where
  pub sealed : drawn.cut ≡ Some cut.Sealed → length drawn.seat.tickets < length plan
  pub unserved : drawn.cut ≡ Some (cut.Fault cause.OutOfMemory) → length drawn.seat.tickets < length plan

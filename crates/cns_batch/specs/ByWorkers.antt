-- How workers serve a lot, and what comes to pass at a desk (this project's own rules).
use Rattle.std.specs.Prelude.{◌≡◌, ◌⊎◌, ⊤, ℕ, nat_le, Bool, true, false, List, [], ◌∷◌, ◌++◌, length, take, drop, codes, Option, Some, None, Result, Ok, Err, option_map, if◌then◌else◌}
use Rattle.std.specs.Arc.{arc_value}
use Rattle.std.specs.Fmt.{decimal}
use Rattle.std.specs.List.{flat_map}
use Rattle.std.specs.List.Sorted.{IsNonDecreasingBy}
use Rattle.cns_pool.specs.declared.ticket.Ticket.{Ticket}
use Rattle.cns_records.specs.declared.refusal.Refusal.{Refusal}
use Rattle.cns_records.specs.declared.refusal.Refusal.TheVariants as refusal
use Rattle.cns_pool.specs.WorkerSeat.{new_worker}
use Rattle.cns_system.specs.Accord.{IsInAccord}
use Rattle.cns_system.specs.Begin.{opened_of}
use Rattle.cns_system.specs.Headline.{IsAgreed}
use Rattle.cns_system.specs.Lot.{planned_sum}
use Rattle.cns_system.specs.declared.desk.Cut.{Cut}
use Rattle.cns_system.specs.declared.desk.Cut.TheVariants as cut
use Rattle.cns_system.specs.declared.floor.Begun.{Begun}
use Rattle.cns_system.specs.Floor.{FloorState, FloorStep, IsLawfulFloor, busy_at}
use Rattle.cns_system.specs.Run.{Occurs}
use Rattle.cns_system.specs.Scene.{is_planner, scene_of}
use Rattle.cns_system.specs.Shown.{shown_of}
use Rattle.cns_system.specs.World.{World}
use Rattle.cns_system.specs.declared.event.Event.{Event}
use Rattle.cns_system.specs.declared.event.Event.TheVariants as event
use Rattle.cns_system.specs.declared.numbered.Opened.{Opened}
use Rattle.cns_system.specs.declared.outcome.Outcome.{Outcome}
use Rattle.cns_system.specs.declared.outcome.Outcome.TheVariants as outcomes
use Rattle.cns_report.specs.Outcomes.{outcome_line}
use Rattle.cns_batch.specs.Acts.{Act, Draws, Gives, Haul, Lets, ◌>>=◌, ◌>>◌, done, happened, single, tells}
use Rattle.cns_batch.specs.Runs.{Exchange}
use Rattle.cns_batch.specs.Runs as x

-- ---- a lot is served

-- the line of a ticket that is refused, whosever it is
abbrev pub not_drawn : Refusal → List ℕ
not_drawn r = outcome_line (event.Reserve 0 0) (outcomes.Refused r)

-- tickets of a lot are entered one after another; whether all were
unfoldable pub entered : ℕ → List Ticket → Act Bool
entered lot [] = Gives true
entered lot (t ∷ tickets) = happened (event.Reserve lot t.member) >>= elim [ outcomes.Drawn drawn ↦ entered lot tickets | _ ↦ Gives false ]

-- what cut the workers off is told
abbrev pub cut_told : Option Refusal → Act (Unit {0})
cut_told None = done
cut_told (Some r) = tells (not_drawn r)

-- a lot is sealed and then closed; the line of the seal is told where it is refused, and then the lot is not closed
abbrev pub closed_after_seal : ℕ → Outcome → Act (Unit {0})
closed_after_seal lot outcomes.Done = single (event.LotClose lot)
closed_after_seal lot o = tells (outcome_line (event.Seal lot) o)

abbrev pub sealed_and_closed : ℕ → Act (Unit {0})
sealed_and_closed lot = Lets (event.Seal lot) (closed_after_seal lot)

-- a lot is closed, sealed before that where it is to be
abbrev pub closed_by : ℕ → Bool → Act (Unit {0})
closed_by lot sealed = if sealed then sealed_and_closed lot else single (event.LotClose lot)

-- what workers drew of a lot is entered, and where all of it was, the lot is closed
abbrev pub hauled : ℕ → Option Haul → Act (Unit {0})
hauled lot None = done
hauled lot (Some haul) = entered lot haul.tickets >>= λ all. if all then (cut_told haul.cut >> closed_by lot haul.sealed) else done

-- a lot is served by workers
abbrev pub served_by_workers : Opened → Act (Unit {0})
served_by_workers lot = Draws lot.number (hauled lot.number)

-- ---- what comes to pass

-- an event came to an outcome: in a hold of the lock, at a floor that was lawful before it and after it; or among those that open a lot or
-- enter what workers drew, one after another in one hold, of nodes in accord and as the headline has them, where a ticket that its lot would
-- not draw is refused, and is no event
abbrev pub HasCome : Event → Outcome → Type 0
HasCome e outcome =
    ((old : FloorState) × (new : FloorState) × IsLawfulFloor old × IsLawfulFloor new × FloorStep e outcome old new)
    ⊎ (((old : World) × (new : World) × IsInAccord old × IsAgreed old × Occurs e outcome old new)
    ⊎ ((lot : ℕ) × (member : ℕ) × (e ≡ event.Reserve lot member) × (outcome ≡ outcomes.Refused refusal.BadTickets)))

-- this is so of a floor that is lawful
abbrev pub AtSomeFloor : (FloorState → Type 0) → Type 0
AtSomeFloor p = (floor : FloorState) × IsLawfulFloor floor × p floor

-- an exchange with a desk came to pass: a failure is planned where a node's keeper plans failures, what is shown is shown by a floor, tickets
-- stand by start, and nothing is drawn of a lot that is not busy
abbrev pub ComesToPass : Exchange → Type 0
ComesToPass (x.Told text) = ⊤
ComesToPass (x.Came e outcome) = HasCome e outcome
ComesToPass (x.Planned name stands planned) = AtSomeFloor (λ floor. planned ≡ is_planner name (scene_of floor.system))
ComesToPass (x.Showed w) = AtSomeFloor (λ floor. w ≡ shown_of floor.system)
ComesToPass (x.Drew lot None) = AtSomeFloor (λ floor. busy_at floor.busy lot ≡ None)
ComesToPass (x.Drew lot (Some haul)) = IsNonDecreasingBy (λ (t : Ticket). t.start) haul.tickets

-- so it leads from any nodes to any
abbrev pub LeadsAtDesk : {N : Type 0} → Exchange → N → N → Type 0
LeadsAtDesk x old new = ComesToPass x

-- ---- what a page tells of a lot

-- that a lot was opened, by its number, what was poured into it and how many longs it has
abbrev pub lot_line : ℕ → ℕ → ℕ → List ℕ
lot_line number poured longs = codes "lot " ++ decimal number ++ codes " poured " ++ decimal poured ++ codes " longs " ++ decimal longs ++ codes "\n"

-- what cut workers off, as a refusal
abbrev pub refusal_of : Cut → Refusal
refusal_of cut.Sealed = refusal.Sealed
refusal_of (cut.Fault cause) = refusal.OutOfMemory

-- what entering a ticket came to
abbrev pub ticket_line : ℕ → Outcome → List ℕ
ticket_line lot (outcomes.Drawn t) = outcome_line (event.Reserve lot t.member) (outcomes.Drawn t)
ticket_line lot (outcomes.Refused r) = not_drawn r
ticket_line lot _ = []

-- what cut the workers off, where something did
abbrev pub cut_text : Option Cut → List ℕ
cut_text None = []
cut_text (Some cut) = not_drawn (refusal_of cut)

-- what the close of a lot came to, after its seal where there was one, which is told only where it was refused
abbrev pub closed_text : ℕ → Bool → List Outcome → List ℕ
closed_text lot sealed [] = []
closed_text lot false (closed ∷ rest) = outcome_line (event.LotClose lot) closed
closed_text lot true (outcomes.Done ∷ []) = []
closed_text lot true (outcomes.Done ∷ closed ∷ rest) = outcome_line (event.LotClose lot) closed
closed_text lot true (refused ∷ rest) = outcome_line (event.Seal lot) refused

-- all of it, of a lot of which so many tickets were drawn
abbrev pub end_text : ℕ → ℕ → Option Cut → Bool → List Outcome → List ℕ
end_text lot many cut sealed told =
    if nat_le (length told) many then flat_map (ticket_line lot) told
    else flat_map (ticket_line lot) (take many told) ++ (cut_text cut ++ closed_text lot sealed (drop many told))

-- ---- the calls

-- a lot that was begun, as an opened one
abbrev pub opened_as : {E : Type 0} → Result (Option Begun) E → Result (Option Opened) E
opened_as (Ok begun) = Ok (option_map opened_of begun)
opened_as (Err e) = Err e

-- the seat of a lot that was begun is one of its cell, with budget and calls for the plan, and no ticket yet
abbrev pub HasSeat : Begun → Type 0
HasSeat begun = begun.seat ≡ new_worker (arc_value begun.cell) (planned_sum begun.plan) (length begun.plan)

-- Those of a plan who wait for their tickets, by a table of their places in the plan.
use Rattle.std.specs.Prelude.{◌≡◌, ℕ, ◌-◌, ◌<◌, ◌≤◌, ◌==◌, not, Bool, true, List, drop, filter, length, slice_index, slice_index_or}
use Rattle.cns_allocate.specs.Plan.{IsPlan}
use Rattle.cns_allocate.specs.declared.planned.Planned.{Planned}

-- whether one that is planned has a place in a table by member number, where 0 is none
abbrev pub is_placed : List ℕ → Planned → Bool
is_placed places p = not (slice_index places p.member == 0)

-- those of the planned that have one
abbrev pub placed : List ℕ → List Planned → List Planned
placed places plan = filter (is_placed places) plan

-- the place k, counted from 1, is that of a member in a plan
pub record IsPlaceOf (plan : List Planned) (member k : ℕ) : Type 0 where
  pub within : k ≤ length plan
  pub named : (p : Planned) → (slice_index_or plan (k - 1) p).member ≡ member

-- each member's place in a table is its place in the plan
abbrev pub ArePlaces : List Planned → List ℕ → Type 0
ArePlaces plan places = (member : ℕ) → 0 < slice_index places member → IsPlaceOf plan member (slice_index places member)

-- a table of those of a plan who wait, and the place of the first of them, counted from 0
pub record AreWaiting (plan : List Planned) (places : List ℕ) (first : ℕ) : Type 0 where
  pub lawful : IsPlan plan
  pub places_are : ArePlaces plan places
  pub within : first ≤ length plan
  pub left : placed places (drop first plan) ≡ placed places plan
  pub waits : (p : Planned) → first < length plan → is_placed places (slice_index_or plan first p) ≡ true

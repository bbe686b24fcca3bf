-- The slots of the open lots, and the place of each issue's lot among them.
use Rattle.std.specs.Prelude.{◌≡◌, ℕ, ◌≤◌, ◌==◌, Bool, false, List, [], ◌∷◌, count_by, Option, Some, None}
use Rattle.std.specs.List.{position}
use Rattle.cns_clearing.specs.declared.lot.Lot.{Lot}

-- the lots, and for how many more there is room
pub record LotRoom : Type 0 where
  pub lots : List Lot
  pub room : ℕ

-- the lots of some slots, in their order; a lot that was closed leaves an empty slot
abbrev pub filled : List (Option Lot) → List Lot
filled [] = []
filled (None ∷ slots) = filled slots
filled (Some lot ∷ slots) = lot ∷ filled slots

-- whether a slot has the lot of an issue
abbrev pub is_slot_of : ℕ → Option Lot → Bool
is_slot_of issue None = false
is_slot_of issue (Some lot) = lot.issue == issue

-- each issue's place is that of the first slot with its lot, where it has one; and it has at most one
pub record AreSlotPlaces (slots : List (Option Lot)) (places : ℕ → Option ℕ) : Type 0 where
  pub first : (issue : ℕ) → places issue ≡ position (is_slot_of issue) slots
  pub once : (issue : ℕ) → count_by (λ (lot : Lot). lot.issue == issue) (filled slots) ≤ 1

-- these are the places, and no slot is left where no lot is open
pub record AreSlots (slots : List (Option Lot)) (places : ℕ → Option ℕ) : Type 0 where
  pub placed : AreSlotPlaces slots places
  pub cleared : filled slots ≡ [] → slots ≡ []

-- The feeder's seat as contracts see it, and what the calls of a cell leave of it (this project's own rules).
use Rattle.std.specs.Prelude.{ℕ, ◌+◌, ◌-◌, Bool, true, false}
pub use Rattle.atomic_table.specs.Seated.{TableId}
use Rattle.cns_pool.specs.Seen.{Seen, nothing_seen}

-- its cell, the sum of its pours, what it may still pour, whether it sealed the cell, and what it has seen
pub record FeederState : Type 0 where
  pub cell : TableId
  pub poured : ℕ
  pub pour_room : ℕ
  pub sealed : Bool
  pub seen : Seen

-- the feeder's seat of a new cell
abbrev pub new_feeder : TableId → ℕ → FeederState
new_feeder cell pours = record { cell = cell; poured = 0; pour_room = pours; sealed = false; seen = nothing_seen }

-- the seat after it poured shares
abbrev pub feeder_after_pour : FeederState → ℕ → FeederState
feeder_after_pour feeder shares = record feeder { poured = feeder.poured + shares; pour_room = feeder.pour_room - shares }

-- the seat after it sealed the cell
abbrev pub feeder_after_seal : FeederState → FeederState
feeder_after_seal feeder = record feeder { sealed = true; seen = record feeder.seen { sealed = true } }

-- the seat once it has seen this
abbrev pub feeder_seeing : FeederState → Seen → FeederState
feeder_seeing feeder seen = record feeder { seen = seen }

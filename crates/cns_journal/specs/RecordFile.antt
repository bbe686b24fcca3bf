-- What reading the records of a file again gives (this project's own rules).
use Rattle.std.specs.Prelude.{◌≡◌, ℕ, ◌+◌, ◌<◌, true, false, List, length, Result, Ok, Err, vec_items, slice_get}
use Rattle.cns_journal.specs.Keeper.{HasRisen}
use Rattle.cns_journal.specs.Layout.{counts, first_payload}
use Rattle.cns_journal.specs.declared.keeper.KeepFault.{KeepFault}
use Rattle.cns_journal.specs.declared.keeper.KeepFault.TheVariants.{Memory, Down, Device}
use Rattle.cns_journal.specs.declared.record_file.Next.{Next}
use Rattle.cns_journal.specs.declared.record_file.Next.TheVariants.{Record, End}

-- a call answers Device exactly where the count of the disk's failures rises
abbrev pub CountsDevice : {T : Type 0} → Result T KeepFault → ℕ → ℕ → Type 0
CountsDevice (Ok _) old new = new ≡ old
CountsDevice (Err Memory) old new = new ≡ old
CountsDevice (Err Down) old new = ⊥
CountsDevice (Err Device) old new = HasRisen old new

-- what stands first in these bytes: a record that counts, or the gate of none, if there is a byte
abbrev pub IsNext : List ℕ → Next → Type 0
IsNext bytes (Record payload) = (counts bytes ≡ true) × (vec_items payload ≡ first_payload bytes)
IsNext bytes (End gate) = (counts bytes ≡ false) × (gate ≡ slice_get bytes 0)

-- a record takes less than all of the bytes that are left
abbrev pub HasLess : ℕ → Next → Type 0
HasLess left (Record payload) = 5 + length (vec_items payload) < left
HasLess left (End gate) = Unit {0}

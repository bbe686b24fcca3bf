-- Reading an input.
use Rattle.std.specs.Prelude.{◌≡◌, ℕ, ◌<◌, ◌↔◌, List, length, Option, Result, Err, IfSome}
use Rattle.std.specs.Io.KnownBytes.{Consumes}
use Rattle.cns_input.specs.declared.fault.BatchFault.{BatchFault}
use Rattle.cns_input.specs.declared.fault.BatchFault.TheVariants as fault

-- the bytes of an input are those that are known of its reader, where some are
abbrev pub IsInput : Option (List ℕ) → List ℕ → Type 0
IsInput known bytes = IfSome known (λ all. bytes ≡ all)

-- what a reader gave up to an answer: more than 67,108,864 bytes exactly where the input is too long
abbrev pub HasGiven : {A : Type 0} → Result A BatchFault → Option (List ℕ) → Option (List ℕ) → Type 0
HasGiven result old new = (given : List ℕ) × Consumes old new given × ((result ≡ Err fault.TooLong) ↔ (67108864 < length given))

-- the faults of reading an input
abbrev pub IsReadFault : BatchFault → Type 0
IsReadFault fault.Read = Unit {0}
IsReadFault fault.TooLong = Unit {0}
IsReadFault fault.Memory = Unit {0}
IsReadFault fault.Sections = ⊥
IsReadFault fault.Csv = ⊥
IsReadFault fault.Journal = ⊥
IsReadFault fault.Write = ⊥

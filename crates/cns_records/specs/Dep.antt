-- The records of the depository and the payload of each (this project's own format).
use Rattle.std.specs.Prelude.{ℕ, ◌≤◌, nat_le, ◌==◌, List, ◌∷◌, ◌++◌, Result, if◌then◌else◌}
use Rattle.std.specs.Int.{w64, to_be_bytes}
use Rattle.cns_ids.specs.Shares.{IsShares}
use Rattle.cns_movements.specs.Fields.{order_bytes, version_byte, version_of}
use Rattle.cns_movements.specs.Ranges.{IsOrderInRange}
use Rattle.cns_movements.specs.declared.version.Version.{Version}
use Rattle.cns_records.specs.Fields.{bad, ◌&◌, made, tested_at, whole_at, payload_as, order_at, shares_at, move_kind_bytes}
use Rattle.cns_movements.specs.declared.version.Version.TheVariants.{One, Two}
use Rattle.cns_records.specs.Instruction.{IsInstructionInRange, instruction_at, instruction_bytes}
use Rattle.cns_records.specs.declared.bad_record.BadRecord.{BadRecord}
use Rattle.cns_records.specs.declared.dep_record.DepRecord.{DepRecord}
use Rattle.cns_records.specs.declared.dep_record.DepRecord.TheVariants.{Exec, Own}

-- the one payload of a record: the version, which is that of the order, and the second of an instruction, the kind, and the fields
unfoldable pub dep_spelling : DepRecord → List ℕ
dep_spelling (Exec o moved) = version_byte (version_of o) ∷ 7 ∷ (move_kind_bytes o.kind ++ (order_bytes o ++ to_be_bytes w64 moved))
dep_spelling (Own i) = 2 ∷ 8 ∷ instruction_bytes i

-- what the types of a record's fields promise
abbrev pub HasDepRanges : DepRecord → Type 0
HasDepRanges (Exec o moved) = IsOrderInRange o × IsShares moved
HasDepRanges (Own i) = IsInstructionInRange i

-- the records that are read again: no more was moved than the order asked for
abbrev pub IsDepWritable : DepRecord → Type 0
IsDepWritable (Exec o moved) = moved ≤ o.asked
IsDepWritable (Own i) = Unit {0}

-- the records that have a payload of their own
abbrev pub HasDepPayload : DepRecord → Type 0
HasDepPayload r = HasDepRanges r × IsDepWritable r

-- an order and what was moved, no more than the order asks for
unfoldable pub exec_of : Version → List ℕ → Result DepRecord BadRecord
exec_of version bytes = whole_at (made (tested_at (order_at version & shares_at) (λ x. nat_le x.1 x.0.asked)) (λ x. Exec x.0 x.1)) bytes

-- an instruction, which is of the second version
unfoldable pub own_of : Version → List ℕ → Result DepRecord BadRecord
own_of One bytes = bad
own_of Two bytes = whole_at (made instruction_at (λ i. Own i)) bytes

-- the record of this version and kind that the bytes after them are
abbrev pub dep_of_kind : Version → ℕ → List ℕ → Result DepRecord BadRecord
dep_of_kind version kind fields = if kind == 7 then exec_of version fields else if kind == 8 then own_of version fields else bad

-- the record that a payload is
unfoldable pub read_dep_of : List ℕ → Result DepRecord BadRecord
read_dep_of payload = payload_as dep_of_kind payload

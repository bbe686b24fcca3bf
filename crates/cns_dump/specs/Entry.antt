-- What the payload of a record is (this project's own rule).
use Rattle.std.specs.Prelude.{◌≡◌, ℕ, Bool, ◌||◌, List, length, Ok, IsErr, is_ok}
use Rattle.cns_records.specs.Clear.{read_clear_of}
use Rattle.cns_records.specs.Dep.{read_dep_of}
use Rattle.cns_dump.specs.declared.entry.Entry.{Entry}
use Rattle.cns_dump.specs.declared.entry.Entry.TheVariants.{Clear, Depot, Unread}

-- a record of the clearing node, else one of the depository, else so many bytes that are none
abbrev pub IsEntryOf : List ℕ → Entry → Type 0
IsEntryOf payload (Clear record') = read_clear_of payload ≡ Ok record'
IsEntryOf payload (Depot record') = IsErr (read_clear_of payload) × (read_dep_of payload ≡ Ok record')
IsEntryOf payload (Unread bytes) = IsErr (read_clear_of payload) × IsErr (read_dep_of payload) × (bytes ≡ length payload)

-- a payload is a record of either node
abbrev pub is_entry : List ℕ → Bool
is_entry payload = is_ok (read_clear_of payload) || is_ok (read_dep_of payload)

-- What stands behind the records of a journal's file, from the gate on that does not count, and which of it a crash in a commit or in a
-- reopening leaves (this project's own rules).
use Rattle.std.specs.Prelude.{◌≡◌, ℕ, ◌+◌, Bool, true, ◌&&◌, ◌||◌, not, nat_eq, nat_le, nat_lt, List, length, drop, slice_index_or}
use Rattle.cns_journal.specs.Disk.{EachImage, LeavesOnly}
use Rattle.cns_journal.specs.Layout.{journal_of, payload_length, size_of}

-- where the last record ends: there stands the gate behind it
abbrev pub end_of : List ℕ → ℕ
end_of file = size_of (journal_of file)

-- what stands from there on
abbrev pub behind_records : List ℕ → List ℕ
behind_records file = drop (end_of file) file

-- no more than one record's bytes stand behind a gate: the length, the longest payload and the next gate
abbrev pub is_short : List ℕ → Bool
is_short tail = nat_le (length tail) (1 + (5 + 1048576))

-- the gate is closed. Behind it may stand any bytes: those of a record that was being written, or of one that was cut short
abbrev pub is_closed : List ℕ → Bool
is_closed tail = nat_eq (slice_index_or tail 0 0) 0 && nat_lt 0 (length tail)

-- a record stands behind the gate whole, with a closed gate behind it, and its own gate is neither open nor closed: it was being opened
abbrev pub is_being_opened : List ℕ → Bool
is_being_opened tail =
    not (nat_eq (slice_index_or tail 0 0) 165) && nat_le (payload_length tail) 1048576 && nat_lt (5 + payload_length tail) (length tail)
    && nat_eq (slice_index_or tail (5 + payload_length tail) 1) 0

-- a crash may leave no more than a gate, of any value; a closed gate; or a record that was being opened
abbrev pub is_crash : List ℕ → Bool
is_crash tail = nat_le (length tail) 1 || ((is_closed tail || is_being_opened tail) && is_short tail)

-- a crash may have left what stands behind the records of this file
abbrev pub IsUndamaged : List ℕ → Type 0
IsUndamaged file = is_crash (behind_records file) ≡ true

-- a crash at any moment from the old state of a disk to the new one leaves a file without damage, and so does one from then on
pub record DoesNoDamage {D : Type 0} (images : D → List ℕ → Type 0) (moment : D → ℕ) (left_since : D → ℕ → List ℕ → Type 0) (old new : D) : Type 0 where
  pub any_moment : LeavesOnly moment left_since old new IsUndamaged
  pub after : EachImage (images new) IsUndamaged

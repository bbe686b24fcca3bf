-- What is told of what stands behind the last record of a journal's file (this project's own rules).
use Rattle.std.specs.Prelude.{◌≢◌, ◌↔◌, ℕ, Bool, ◌&&◌, nat_eq, nat_le, List, length, slice_index_or, if◌then◌else◌}
use Rattle.cns_journal.specs.Tail.{IsUndamaged, behind_records, is_crash}
use Rattle.cns_file.specs.declared.tail.Tail.{Tail}
use Rattle.cns_file.specs.declared.tail.Tail.TheVariants.{Nothing, Crash, Damage}

-- nothing stands behind a closed gate, or the file is empty
abbrev pub is_nothing : List ℕ → Bool
is_nothing tail = nat_le (length tail) 1 && nat_eq (slice_index_or tail 0 0) 0

-- what a tail is
abbrev pub tail_kind : List ℕ → Tail
tail_kind tail = if is_nothing tail then Nothing else if is_crash tail then Crash else Damage

-- damage is told of each file that no crash leaves, and of no other
abbrev pub DamageIsReported : Type 0
DamageIsReported = (file : List ℕ) → IsUndamaged file ↔ (tail_kind (behind_records file) ≢ Damage)

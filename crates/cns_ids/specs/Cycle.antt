-- Cycles and their order: by date, then the night cycle before the day cycle (this project's own rule).
use Rattle.std.specs.Prelude.{ℕ, Bool, ◌&&◌, ◌||◌, ◌==◌, nat_lt, List, codes}
use Rattle.cns_ids.specs.declared.cycle.CycleKind.{CycleKind}
use Rattle.cns_ids.specs.declared.cycle.CycleKind.TheVariants.{Night, Day}
use Rattle.cns_ids.specs.declared.cycle.CycleId.{CycleId}

-- the place of a kind in its date: the night cycle comes first
abbrev pub rank : CycleKind → ℕ
rank kind = elim kind [ Night ↦ 0 | Day ↦ 1 ]

abbrev pub is_after : CycleId → CycleId → Bool
is_after a b = nat_lt b.day a.day || ((b.day == a.day) && nat_lt (rank b.kind) (rank a.kind))

abbrev pub kind_text : CycleKind → List ℕ
kind_text kind = elim kind [ Night ↦ codes "NIGHT" | Day ↦ codes "DAY" ]

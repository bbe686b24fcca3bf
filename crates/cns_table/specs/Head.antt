-- The heads of reports (this project's own format).
use Rattle.std.specs.Prelude.{ℕ, ◌==◌, ◌&&◌, bytes_eq, nat_lt, Bool, List, take, drop, length, slice_index, codes, Option, Some, None, option_map, if◌then◌else◌}
use Rattle.cns_ids.specs.Cycle.{kind_text}
use Rattle.cns_ids.specs.declared.cycle.CycleKind.{CycleKind}
use Rattle.cns_ids.specs.declared.cycle.CycleKind.TheVariants.{Night, Day}
use Rattle.cns_words.specs.Words.{begins_with}
use Rattle.cns_table.specs.Text.{is_date}
use Rattle.cns_table.specs.declared.head.Cycle.{Cycle}

abbrev pub kind_in : List ℕ → Option CycleKind
kind_in text = if bytes_eq text (kind_text Night) then Some Night else if bytes_eq text (kind_text Day) then Some Day else None

abbrev pub begins_with_date : List ℕ → Bool
begins_with_date text = nat_lt 10 (length text) && is_date (take 10 text) && (slice_index text 10 == 32)

-- DATE KIND
unfoldable pub head_cycle : List ℕ → Option Cycle
head_cycle text = if begins_with_date text then option_map (λ kind. record { date = take 10 text; kind = kind }) (kind_in (drop 11 text)) else None

-- the cycle that a head names, or none: REPORT cycle none, or REPORT cycle DATE KIND
unfoldable pub head_in : List ℕ → Option (Option Cycle)
head_in line =
    if begins_with line (codes "REPORT cycle ") then (if bytes_eq (drop 13 line) (codes "none") then Some None else option_map Some (head_cycle (drop 13 line)))
    else None

-- The priorities of members (this project's own rule). Settings stand newest first.
use Rattle.std.specs.Prelude.{ℕ, ◌&&◌, ◌==◌, Bool, false, List, find, option_map, unwrap_or}
use Rattle.cns_covers.specs.declared.priorities.Prioritized.{Prioritized}

-- whether a member has priority in an issue: as the newest setting says, and not where there is none
abbrev pub is_on : List Prioritized → ℕ → ℕ → Bool
is_on settings member issue = unwrap_or (option_map (λ (s : Prioritized). s.on) (find (λ s. (s.member == member) && (s.issue == issue)) settings)) false

-- The shares that members exempt from covers (this project's own rule). Settings stand newest first.
use Rattle.std.specs.Prelude.{ℕ, ◌&&◌, ◌==◌, List, find, option_map, unwrap_or}
use Rattle.cns_covers.specs.declared.exemptions.Exempted.{Exempted}

-- the shares that a member exempts in an issue: those of the newest setting, 0 where there is none
abbrev pub exempt_of : List Exempted → ℕ → ℕ → ℕ
exempt_of settings member issue = unwrap_or (option_map (λ (s : Exempted). s.shares) (find (λ s. (s.member == member) && (s.issue == issue)) settings)) 0

-- What members set in issues (this project's own rule). Settings stand newest first.
use Rattle.std.specs.Prelude.{◌≡◌, ℕ, ◌&&◌, ◌==◌, Bool, List, Option, find, option_map}
use Rattle.cns_ids.specs.Holding.{holding_at}
use Rattle.cns_ids.specs.declared.holding.Holding.{Holding}

-- the settings, and for how many more there is room
pub record SettingRoom (S : Type 0) : Type 0 where
  pub settings : List S
  pub room : ℕ

-- whether a setting is of a member and issue
abbrev pub is_setting_of : {S : Type 0} → (S → Holding) → ℕ → ℕ → S → Bool
is_setting_of place member issue s = ((place s).member == member) && ((place s).issue == issue)

-- what the newest setting of a member and issue says, where there is one
abbrev pub newest_of : {S V : Type 0} → (S → Holding) → (S → V) → List S → ℕ → ℕ → Option V
newest_of place says settings member issue = option_map says (find (is_setting_of place member issue) settings)

-- what is found for each member and issue is what the newest setting of them says
abbrev pub AreLatest : {S V : Type 0} → (S → Holding) → (S → V) → List S → (Holding → Option V) → Type 0
AreLatest place says settings found = (member issue : ℕ) → found (holding_at issue member) ≡ newest_of place says settings member issue

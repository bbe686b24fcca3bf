-- Members by a set of them.
use Rattle.std.specs.Prelude.{◌≡◌, ℕ, List, nat_eq}
use Rattle.std.specs.HashSet.{HashSet, contains}
use Rattle.std.specs.List.{list_any}

-- a set has just these members
abbrev pub AreAmong : {S : Type 0} → List ℕ → HashSet ℕ S → Type 0
AreAmong members among = (member : ℕ) → contains nat_eq among member ≡ list_any (nat_eq member) members

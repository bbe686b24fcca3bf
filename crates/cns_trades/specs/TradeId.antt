-- Trade ids: 1 to 16 capital letters and digits (this project's own rule).
use Rattle.std.specs.Prelude.{◌≡◌, ℕ, ◌&&◌, ◌||◌, min, nat_le, Bool, true, not, ◌==◌, List, [], ◌∷◌, ◌++◌, drop, length, replicate, slice_index, take}
use Rattle.std.specs.List.{list_all}

abbrev pub is_id_byte : ℕ → Bool
is_id_byte c = (nat_le 65 c && nat_le c 90) || (nat_le 48 c && nat_le c 57)

abbrev pub is_id_text : List ℕ → Bool
is_id_text t = not (length t == 0) && nat_le (length t) 16 && list_all is_id_byte t

abbrev pub IsId : List ℕ → Type 0
IsId t = is_id_text t ≡ true

-- how many of sixteen stored bytes are the id's: the last one says it, unless it is the id's own, which is more than 16
abbrev pub size_in : List ℕ → ℕ
size_in bytes = min 16 (slice_index bytes 15)

-- a text as it is stored, in sixteen bytes: with zeros after it, and then its length, where it leaves room for that
abbrev pub stored : List ℕ → List ℕ
stored t = t ++ drop (length t) (replicate 15 0 ++ length t ∷ [])

-- bytes in which an id is stored
pub record IsStored (bytes : List ℕ) : Type 0 where
  pub rest : stored (take (size_in bytes) bytes) ≡ bytes
  pub id : IsId (take (size_in bytes) bytes)

-- How a list of payloads stands in one list of bytes (this project's own layout).
use Rattle.std.specs.Prelude.{◌≡◌, ℕ, ◌≤◌, List, [], ◌∷◌, length, take, drop}

-- the pieces of these lengths, from the first byte on
abbrev pub pieces : List ℕ → List ℕ → List (List ℕ)
pieces [] bytes = []
pieces (n ∷ lengths) bytes = take n bytes ∷ pieces lengths (drop n bytes)

-- the pieces of these lengths are all of the bytes
abbrev pub AreAll : List ℕ → List ℕ → Type 0
AreAll [] bytes = bytes ≡ []
AreAll (n ∷ lengths) bytes = (n ≤ length bytes) × AreAll lengths (drop n bytes)

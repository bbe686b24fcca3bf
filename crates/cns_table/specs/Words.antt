-- The names among the words of a line.
use Rattle.std.specs.Prelude.{ℕ, bytes_eq, List, [], ◌∷◌, Option, Some, None, if◌then◌else◌}

-- the word behind a name, and the words behind that
abbrev pub named : List ℕ → List (List ℕ) → Option (List ℕ × List (List ℕ))
named name [] = None
named name (word ∷ []) = None
named name (word ∷ value ∷ more) = if bytes_eq word name then Some (value, more) else None

-- A text at the right of 20 places.
use Rattle.std.specs.Prelude.{ℕ, ◌-◌, List, ◌++◌, length, replicate}

abbrev pub right_20 : List ℕ → List ℕ
right_20 t = replicate (20 - length t) 32 ++ t

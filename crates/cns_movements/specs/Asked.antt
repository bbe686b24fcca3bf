-- The shares that a movement order asks for (this project's own range).
use Rattle.std.specs.Prelude.{ℕ, ◌≤◌, ◌&&◌, nat_le, Bool}

-- whether an order may ask for this many shares
abbrev pub is_asked : ℕ → Bool
is_asked n = nat_le 1 n && nat_le n 1000000000000000000

-- the same as a fact
pub record IsAsked (n : ℕ) : Type 0 where
  pub from : 1 ≤ n
  pub to : n ≤ 1000000000000000000

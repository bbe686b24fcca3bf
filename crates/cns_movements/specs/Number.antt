-- Movement numbers (this project's own range).
use Rattle.std.specs.Prelude.{ℕ, ◌≤◌, ◌&&◌, nat_le, Bool}

-- whether a number is a movement's
abbrev pub is_move_no : ℕ → Bool
is_move_no n = nat_le 1 n && nat_le n 1000000

-- the same as a fact
pub record IsMoveNo (n : ℕ) : Type 0 where
  pub from : 1 ≤ n
  pub to : n ≤ 1000000

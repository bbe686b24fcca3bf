-- Clearing members' numbers.
use Rattle.std.specs.Prelude.{ℕ, ◌+◌, ◌/◌, ◌%◌, ◌≤◌, ◌&&◌, nat_le, Bool, List, [], ◌∷◌}

abbrev pub is_member : ℕ → Bool
is_member n = nat_le 1 n && nat_le n 9999

pub record IsMember (n : ℕ) : Type 0 where
  pub from : 1 ≤ n
  pub to : n ≤ 9999

-- a member's number with four digits
abbrev pub member_text : ℕ → List ℕ
member_text n = (48 + n / 1000 % 10) ∷ (48 + n / 100 % 10) ∷ (48 + n / 10 % 10) ∷ (48 + n % 10) ∷ []

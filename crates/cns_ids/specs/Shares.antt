-- Counts of shares, and the quantity of a trade.
use Rattle.std.specs.Prelude.{ℕ, ◌≤◌, ◌&&◌, nat_le, Bool}

abbrev pub is_shares : ℕ → Bool
is_shares n = nat_le n 1000000000000000000

abbrev pub IsShares : ℕ → Type 0
IsShares n = n ≤ 1000000000000000000

abbrev pub is_quantity : ℕ → Bool
is_quantity n = nat_le 1 n && nat_le n 999999999999

pub record IsQuantity (n : ℕ) : Type 0 where
  pub from : 1 ≤ n
  pub to : n ≤ 999999999999

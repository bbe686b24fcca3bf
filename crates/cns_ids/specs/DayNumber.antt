-- A date's number gives back its parts.
use Rattle.std.proofs.Common.{◌≡◌, ℕ, ◌/◌, ◌%◌, ◌≤◌, arith}
use Rattle.std.specs.Prelude.{pos}
use Rattle.jiff.specs.Words.{days_in_month}
use Rattle.cns_ids.specs.Day.{IsRealDay, number_of_day}

days_in_month-most : (y m : ℕ) → days_in_month (pos y) m ≤ 31
days_in_month-most y m = grind arith

pub year-number : (y m d : ℕ) → IsRealDay y m d → number_of_day y m d / 10000 ≡ y
year-number y m d h = let most = days_in_month-most y m in omega (arith, h.month_to, h.day_to, most)

pub month-number : (y m d : ℕ) → IsRealDay y m d → number_of_day y m d / 100 % 100 ≡ m
month-number y m d h = let most = days_in_month-most y m in omega (arith, h.month_to, h.day_to, most)

pub day-number : (y m d : ℕ) → IsRealDay y m d → number_of_day y m d % 100 ≡ d
day-number y m d h = let most = days_in_month-most y m in omega (arith, h.day_to, most)

-- Dates of the Gregorian calendar, of the years 1900 to 2199.
use Rattle.std.specs.Prelude.{ℕ, ◌+◌, ◌-◌, ◌*◌, ◌/◌, ◌%◌, ◌≤◌, ◌==◌, ◌&&◌, nat_le, Bool, List, [], ◌∷◌, length, slice_index, pos}
use Rattle.std.specs.List.{list_all}
use Rattle.jiff.specs.Words.{days_in_month}
use Rattle.cns_ids.specs.Number.{is_digit}

pub record IsRealDay (year month day : ℕ) : Type 0 where
  pub year_from : 1900 ≤ year
  pub year_to : year ≤ 2199
  pub month_from : 1 ≤ month
  pub month_to : month ≤ 12
  pub day_from : 1 ≤ day
  pub day_to : day ≤ days_in_month (pos year) month

abbrev pub is_real_day : ℕ → ℕ → ℕ → Bool
is_real_day year month day =
    nat_le 1900 year && nat_le year 2199 && nat_le 1 month && nat_le month 12 && nat_le 1 day && nat_le day (days_in_month (pos year) month)

-- a date as the number yyyymmdd
abbrev pub number_of_day : ℕ → ℕ → ℕ → ℕ
number_of_day year month day = year * 10000 + month * 100 + day

abbrev pub IsDayNumber : ℕ → Type 0
IsDayNumber n = IsRealDay (n / 10000) (n / 100 % 100) (n % 100)

-- whether a text has the form dddd-dd-dd
abbrev pub has_day_form : List ℕ → Bool
has_day_form t =
    (length t == 10) && list_all (λ i. is_digit (slice_index t i)) (0 ∷ 1 ∷ 2 ∷ 3 ∷ 5 ∷ 6 ∷ 8 ∷ 9 ∷ []) && list_all (λ i. slice_index t i == 45) (4 ∷ 7 ∷ [])

-- the number that two digits from a place on are
abbrev pub two_digits_at : List ℕ → ℕ → ℕ
two_digits_at t i = (slice_index t i - 48) * 10 + (slice_index t (i + 1) - 48)

-- the date of a number as dddd-dd-dd
abbrev pub day_text : ℕ → List ℕ
day_text n =
    (48 + n / 10000000 % 10) ∷ (48 + n / 1000000 % 10) ∷ (48 + n / 100000 % 10) ∷ (48 + n / 10000 % 10) ∷ 45
    ∷ (48 + n / 1000 % 10) ∷ (48 + n / 100 % 10) ∷ 45 ∷ (48 + n / 10 % 10) ∷ (48 + n % 10) ∷ []

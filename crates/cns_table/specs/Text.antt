-- The texts of a report's fields (this project's own format).
use Rattle.std.specs.Prelude.{ℕ, ◌==◌, ◌&&◌, ◌||◌, not, nat_le, Bool, List, [], ◌∷◌, drop, length, slice_index, if◌then◌else◌}
use Rattle.std.specs.List.{list_all}
use Rattle.cns_ids.specs.Number.{is_digit}

-- digits, capital letters, *, @ and #
abbrev pub is_cusip_character : ℕ → Bool
is_cusip_character c = is_digit c || (nat_le 65 c && nat_le c 90) || (c == 42) || (c == 64) || (c == 35)

abbrev pub is_cusip : List ℕ → Bool
is_cusip t = (length t == 9) && list_all is_cusip_character t

-- an account, or a member: four digits
abbrev pub is_account : List ℕ → Bool
is_account t = (length t == 4) && list_all is_digit t

-- 1 to 20 digits
abbrev pub is_number : List ℕ → Bool
is_number t = not (length t == 0) && nat_le (length t) 20 && list_all is_digit t

-- and with a minus sign in front
abbrev pub is_signed : List ℕ → Bool
is_signed t = if not (length t == 0) && (slice_index t 0 == 45) then is_number (drop 1 t) else is_number t

-- dddd-dd-dd
abbrev pub is_date : List ℕ → Bool
is_date t =
    (length t == 10) && list_all (λ i. is_digit (slice_index t i)) (0 ∷ 1 ∷ 2 ∷ 3 ∷ 5 ∷ 6 ∷ 8 ∷ 9 ∷ []) && list_all (λ i. slice_index t i == 45) (4 ∷ 7 ∷ [])

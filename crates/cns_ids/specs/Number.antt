-- Decimal numbers of a range, with any number of leading zeros (this project's own rule).
use Rattle.std.specs.Prelude.{ℕ, ◌+◌, ◌-◌, ◌*◌, ◌^◌, ◌&&◌, min, nat_le, Bool, List, [], ◌∷◌, length, Option, Some, None, Result, Ok, Err, if◌then◌else◌}
use Rattle.std.specs.List.{list_all}
use Rattle.cns_ids.specs.declared.number.ReadFault.{ReadFault}
use Rattle.cns_ids.specs.declared.number.ReadFault.TheVariants as fault

abbrev pub is_digit : ℕ → Bool
is_digit c = nat_le 48 c && nat_le c 57

-- the value of decimal digits: the sum of each digit times the power of ten of its place
unfoldable pub decimal_value : List ℕ → ℕ
decimal_value [] = 0
decimal_value (c ∷ cs) = (c - 48) * 10 ^ length cs + decimal_value cs

abbrev pub within : ℕ → ℕ → ℕ → Result ℕ ReadFault
within low high n = if nat_le low n && nat_le n high then Ok n else Err fault.OutOfRange

-- the number from low to high that a text is, or the text's first fault
unfoldable pub number_in : ℕ → ℕ → List ℕ → Result ℕ ReadFault
number_in low high [] = Err fault.BadNumber
number_in low high (c ∷ cs) = if list_all is_digit (c ∷ cs) then within low high (decimal_value (c ∷ cs)) else Err fault.BadNumber

-- the value of digits where it is below 2^64, and else 2^64; none where a byte is no digit
abbrev pub capped_value : List ℕ → Option ℕ
capped_value text = if list_all is_digit text then Some (min (decimal_value text) 18446744073709551616) else None

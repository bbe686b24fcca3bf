-- CUSIPs: eight listed characters, and the digit that makes one sum over places right (ANSI X9.6).
use Rattle.std.specs.Prelude.{◌≡◌, ℕ, ◌+◌, ◌-◌, ◌*◌, ◌/◌, ◌%◌, ◌^◌, ◌<◌, Bool, nat_eq, ◌==◌, codes, List, [], ◌∷◌, take, drop, length, slice_index, Option, Some, None, is_some, unwrap_or, Result, Ok, Err, if◌then◌else◌}
use Rattle.std.specs.List.{position}
use Rattle.std.specs.Int.{from_be_bytes, to_be_bytes, w64}
use Rattle.cns_ids.specs.Number.{is_digit}
use Rattle.cns_ids.specs.declared.cusip.CusipFault.{CusipFault}
use Rattle.cns_ids.specs.declared.cusip.CusipFault.TheVariants as fault

-- the value of a listed character: its place among these, from 0 on
unfoldable pub value_of : ℕ → Option ℕ
value_of c = position (nat_eq c) (codes "0123456789ABCDEFGHIJKLMNOPQRSTUVWXYZ*@#")

-- what a character adds in its place, counted from 1: in an even place its value is doubled, and the two digits of that are added
abbrev pub share_at : ℕ → ℕ → ℕ
share_at place c = let v = (if place % 2 == 0 then 2 else 1) * unwrap_or (value_of c) 0 in v / 10 + v % 10

-- the sum over the places from a place on
unfoldable pub sum_from : ℕ → List ℕ → ℕ
sum_from place [] = 0
sum_from place (c ∷ cs) = share_at place c + sum_from (place + 1) cs

-- the digit that completes the sum over the first eight places to a multiple of ten
abbrev pub check_digit : List ℕ → ℕ
check_digit text = (10 - sum_from 1 (take 8 text) % 10) % 10

-- the ninth place takes a digit, and the others any listed character
abbrev pub is_listed_at : ℕ → ℕ → Bool
is_listed_at place c = if place == 9 then is_digit c else is_some (value_of c)

-- the first place, from a place on, whose character is not allowed there
unfoldable pub first_bad : ℕ → List ℕ → Option ℕ
first_bad place [] = None
first_bad place (c ∷ cs) = if is_listed_at place c then first_bad (place + 1) cs else Some place

-- nine bytes as one number in base 256, the first byte highest
abbrev pub number_of : List ℕ → ℕ
number_of text = slice_index text 0 * 2 ^ 64 + from_be_bytes w64 (drop 1 text)

-- the nine bytes of such a number
abbrev pub cusip_text : ℕ → List ℕ
cusip_text n = (n / 2 ^ 64) ∷ to_be_bytes w64 (n % 2 ^ 64)

-- what has nine listed characters is a CUSIP where the ninth is the check digit
abbrev pub with_digit : List ℕ → Option ℕ → Result ℕ CusipFault
with_digit text (Some place) = Err (fault.BadChar place)
with_digit text None = if slice_index text 8 == 48 + check_digit text then Ok (number_of text) else Err (fault.CheckDigit (check_digit text))

-- a text as a CUSIP, or its first fault
unfoldable pub read_cusip : List ℕ → Result ℕ CusipFault
read_cusip text = if length text == 9 then with_digit text (first_bad 1 text) else Err fault.Length

-- a number is a CUSIP's where its nine bytes are read back as it
pub record IsCusip (n : ℕ) : Type 0 where
  pub small : n < 2 ^ 72
  pub reads : read_cusip (cusip_text n) ≡ Ok n

-- Numbers digit by digit.
use Rattle.std.proofs.Common.{◌≡◌, ℕ, suc, ◌+◌, ◌-◌, ◌*◌, ◌^◌, ◌<◌, ◌≤◌, true, List, [], ◌∷◌, ◌++◌, length, take, get_or, refl, ◌∙◌, arith, length-append}
use Rattle.std.specs.Prelude.{min, nat_le, Ok, Err, if◌then◌else◌}
use Rattle.std.specs.List.{list_all}
use Rattle.std.proofs.Math.Nat.{pow-succ', pow-le-pow_right, mul-le-mul_right}
use Rattle.std.proofs.lemmas.Bool.{and_parts, leb-true}
use Rattle.std.proofs.lemmas.Bool.Decides.{nat_tests}
use Rattle.std.proofs.lemmas.List.{take_more, length-take-le}
use Rattle.cns_ids.specs.Number.{decimal_value, is_digit, number_in, within}
use Rattle.cns_ids.specs.declared.number.ReadFault.TheVariants as fault

pub decimal_value-push : (cs : List ℕ) (c : ℕ) → decimal_value (cs ++ c ∷ []) ≡ 10 * decimal_value cs + (c - 48)
unfolding decimal_value
decimal_value-push [] c = omega arith
decimal_value-push (x ∷ xs) c =
    let size : length (xs ++ c ∷ []) ≡ suc (length xs) = omega (arith, length-append xs (c ∷ [])) in
    let power : 10 ^ length (xs ++ c ∷ []) ≡ 10 * 10 ^ length xs = rw (size, pow-succ' 10 (length xs)) refl in
    let more = decimal_value-push xs c in
    rw (power, more) (omega arith)

pub value_step : (text : List ℕ) (i v : ℕ) → i < length text → v ≡ min (decimal_value (take i text)) 18446744073709551616
    → min (10 * v + (get_or text i 0 - 48)) 18446744073709551616 ≡ min (decimal_value (take (i + 1) text)) 18446744073709551616
value_step text i v lt h =
    let more = take_more text i 0 lt in
    rw (more, decimal_value-push (take i text) (get_or text i 0)) (omega (arith, h))

-- digits are below the power of ten of their count
decimal_value-below : (cs : List ℕ) → list_all is_digit cs ≡ true → decimal_value cs < 10 ^ length cs
unfolding decimal_value
decimal_value-below [] all = omega arith
decimal_value-below (c ∷ cs) all =
    let both = and_parts (is_digit c) (list_all is_digit cs) all in
    let digit : c ≤ 57 = leb-true c 57 (and_parts (nat_le 48 c) (nat_le c 57) both.0).1 in
    let rest = decimal_value-below cs both.1 in
    let most : (c - 48) * 10 ^ length cs ≤ 9 * 10 ^ length cs = mul-le-mul_right (10 ^ length cs) (omega (arith, digit)) in
    rw (pow-succ' 10 (length cs)) (omega (arith, rest, most))

short_below : (cs : List ℕ) (n : ℕ) → length cs ≤ n → list_all is_digit cs ≡ true → decimal_value cs < 10 ^ n
short_below cs n short all =
    let below = decimal_value-below cs all in
    let most = pow-le-pow_right {n = 10} (omega arith) {i = length cs} {j = n} short in
    omega (arith, below, most)

-- so one more is left room for within 19
pub short_so_far : (text : List ℕ) (i : ℕ) → i < length text → length text ≤ 19 → list_all is_digit (take i text) ≡ true → decimal_value (take i text) < 10 ^ 18
short_so_far text i lt short all =
    let size = length-take-le i text (omega arith) in
    short_below (take i text) 18 (omega (arith, size)) all

-- what a text that is not empty is read as
pub number_in_some : (low high : ℕ) (text : List ℕ) → 0 < length text
    → number_in low high text ≡ (if list_all is_digit text then within low high (decimal_value text) else Err fault.BadNumber)
unfolding number_in
number_in_some low high [] some = absurd (omega arith)
number_in_some low high (c ∷ cs) some = refl

-- a short text of digits is the number that they are
pub short_is : (text : List ℕ) → 0 < length text → length text ≤ 19 → list_all is_digit text ≡ true → number_in 0 18446744073709551615 text ≡ Ok (decimal_value text)
short_is text some short all =
    let below = short_below text 19 short all in
    let value = decimal_value text in
    let tests : within 0 18446744073709551615 value ≡ Ok value = grind (arith, nat_tests) in
    number_in_some 0 18446744073709551615 text some ∙ rw (all, tests) refl

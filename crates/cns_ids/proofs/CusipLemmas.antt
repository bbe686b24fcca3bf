-- Nine bytes, their number in base 256, and the number in base 128 by which they are held.
use Rattle.std.proofs.Common.{◌≡◌, ℕ, zero, suc, ◌+◌, ◌-◌, ◌*◌, ◌/◌, ◌%◌, ◌^◌, ◌<◌, ◌≤◌, Bool, true, false, List, [], ◌∷◌, ◌++◌, length, take, drop, get_or, refl, sym, ◌∙◌, ap, arith, inl, inr, ◌⊎◌, is_some, Some, None, Option, Err, nat_cmp, Less, Equal, Greater, add-one}
use Rattle.std.specs.Prelude.{Ok, slice_index, ◌==◌, if◌then◌else◌}
use Rattle.std.specs.Cmp.{nat_cmp_is}
use Rattle.std.specs.Int.{from_be_bytes, to_be_bytes, w64}
use Rattle.std.proofs.Math.Nat.{div-div-eq-div-mul, pow-succ'}
use Rattle.std.proofs.lemmas.Bool.{cases_lt, cases_order, eq-eqb, ne_eqb}
use Rattle.std.proofs.lemmas.List.{drop_all, drop_more, get_or-take, length-take-le, take-append-drop, take_all}
use Rattle.std.proofs.lemmas.Nat.{be_bytes_8, div-mul-add, mod-mul-add}
use Rattle.cns_ids.specs.Cusip.{IsCusip, number_of, cusip_text, read_cusip, first_bad, is_listed_at, value_of, check_digit, share_at, sum_from}
use Rattle.cns_ids.specs.declared.cusip.CusipFault.TheVariants as fault
use Rattle.cns_ids.specs.CusipNumber.{widened}
use Rattle.cns_ids.specs.Number.{is_digit}

-- eight bytes make a number below 2 ^ 64
below : (bs : List ℕ) → ((i : ℕ) → get_or bs i 0 < 256) → from_be_bytes w64 bs < 2 ^ 64
below bs h = omega (arith, h 0, h 1, h 2, h 3, h 4, h 5, h 6, h 7)

pub number_of-small : (text : List ℕ) → length text ≡ 9 → ((i : ℕ) → get_or text i 0 < 256) → number_of text < 2 ^ 72
number_of-small [] size h = absurd (omega (arith, size))
number_of-small (b ∷ bs) size h = omega (arith, below bs (λ i. h (suc i)), h 0)

-- the number of nine bytes gives them back
pub cusip_text-number_of : (text : List ℕ) → length text ≡ 9 → ((i : ℕ) → get_or text i 0 < 256) → cusip_text (number_of text) ≡ text
cusip_text-number_of [] size h = absurd (omega (arith, size))
cusip_text-number_of (b ∷ bs) size h =
    let rest = below bs (λ i. h (suc i)) in
    let high : (b * 2 ^ 64 + from_be_bytes w64 bs) / 2 ^ 64 ≡ b = div-mul-add b (2 ^ 64) (from_be_bytes w64 bs) rest in
    let low : (b * 2 ^ 64 + from_be_bytes w64 bs) % 2 ^ 64 ≡ from_be_bytes w64 bs = mod-mul-add b (2 ^ 64) (from_be_bytes w64 bs) rest in
    let eight : length bs ≡ 8 = omega (arith, size) in
    let back : to_be_bytes w64 ((b * 2 ^ 64 + from_be_bytes w64 bs) % 2 ^ 64) ≡ bs = be_bytes_8 bs _ eight (λ i. h (suc i)) low in
    ap (λ x. x ∷ to_be_bytes w64 ((b * 2 ^ 64 + from_be_bytes w64 bs) % 2 ^ 64)) high ∙ ap (λ xs. b ∷ xs) back

-- eight bytes and one more make the number of all nine
nine : (text : List ℕ) → length text ≡ 9 → from_be_bytes w64 (take 8 text) * 256 + slice_index text 8 ≡ number_of text
nine [] size = absurd (omega (arith, size))
nine (b ∷ bs) size =
    let at : (k : ℕ) → k < 7 → get_or (take 7 bs) k 0 ≡ get_or bs k 0 = λ k less. get_or-take 7 bs k 0 less in
    omega (arith, at 0 (omega arith), at 1 (omega arith), at 2 (omega arith), at 3 (omega arith), at 4 (omega arith), at 5 (omega arith), at 6 (omega arith))

-- the check digit is that of the first eight
pub check_digit-head : (text : List ℕ) → length text ≡ 9 → check_digit (take 8 text) ≡ check_digit text
check_digit-head text size =
    ap (λ (bs : List ℕ). (10 - sum_from 1 bs % 10) % 10) (take_all 8 (take 8 text) (omega (arith, length-take-le 8 text (omega (arith, size)))))

-- ---- a number and the bytes that follow it, in base 256

pub joined : ℕ → List ℕ → ℕ
joined n [] = n
joined n (c ∷ cs) = joined (n * 256 + c) cs

pub joined-push : (n c : ℕ) (cs : List ℕ) → joined n (c ∷ cs) ≡ joined (n * 256 + c) cs
unfolding joined
joined-push n c cs = refl

pub joined-end : (n : ℕ) → joined n [] ≡ n
unfolding joined
joined-end n = refl

-- eight bytes, and nine
pub joined_eight : (text : List ℕ) → length text ≡ 8 → joined 0 text ≡ from_be_bytes w64 text
unfolding joined
joined_eight (a ∷ b ∷ c ∷ d ∷ e ∷ f ∷ g ∷ h ∷ []) size = omega arith
joined_eight (a ∷ b ∷ c ∷ d ∷ e ∷ f ∷ g ∷ h ∷ i ∷ more) size = absurd (omega (arith, size))
joined_eight (a ∷ b ∷ c ∷ d ∷ e ∷ f ∷ g ∷ []) size = absurd (omega (arith, size))
joined_eight (a ∷ b ∷ c ∷ d ∷ e ∷ f ∷ []) size = absurd (omega (arith, size))
joined_eight (a ∷ b ∷ c ∷ d ∷ e ∷ []) size = absurd (omega (arith, size))
joined_eight (a ∷ b ∷ c ∷ d ∷ []) size = absurd (omega (arith, size))
joined_eight (a ∷ b ∷ c ∷ []) size = absurd (omega (arith, size))
joined_eight (a ∷ b ∷ []) size = absurd (omega (arith, size))
joined_eight (a ∷ []) size = absurd (omega (arith, size))
joined_eight [] size = absurd (omega (arith, size))

joined_nine : (a b c d e f g h i : ℕ) → joined 0 (a ∷ b ∷ c ∷ d ∷ e ∷ f ∷ g ∷ h ∷ i ∷ []) ≡ number_of (a ∷ b ∷ c ∷ d ∷ e ∷ f ∷ g ∷ h ∷ i ∷ [])
unfolding joined
joined_nine a b c d e f g h i = omega arith

-- a number of nine bytes has nothing before them
joined_small : (n a b c d e f g h i : ℕ) → joined n (a ∷ b ∷ c ∷ d ∷ e ∷ f ∷ g ∷ h ∷ i ∷ []) < 2 ^ 72 → n ≡ 0
unfolding joined
joined_small n a b c d e f g h i small = omega (arith, small)

-- ---- numbers in base 128 and in base 256

pub widened-zero : (n : ℕ) → widened 0 n ≡ n
unfolding widened
widened-zero n = refl

-- one more character
pub widened-push : (places n c : ℕ) → c < 128 → widened (places + 1) (n * 128 + c) ≡ widened places n * 256 + c
unfolding widened
widened-push places n c small =
    let high : (n * 128 + c) / 128 ≡ n = div-mul-add n 128 c small in
    let low : (n * 128 + c) % 128 ≡ c = mod-mul-add n 128 c small in
    rw (add-one, high, low) refl

pub room-push : (places n c : ℕ) → n < 128 ^ places → c < 128 → n * 128 + c < 128 ^ (places + 1)
room-push places n c room small = rw (add-one, pow-succ' 128 places) (omega (arith, room, small))

pub widened-less : (places a b : ℕ) → a < b → widened places a < widened places b
unfolding widened
widened-less zero a b less = less
widened-less (suc places) a b less = by (cases_lt (a / 128) (b / 128)) (λ high. widened-less places (a / 128) (b / 128) high)
  where
    by : ((a / 128 < b / 128) ⊎ (b / 128 ≤ a / 128)) → (a / 128 < b / 128 → widened places (a / 128) < widened places (b / 128))
        → widened places (a / 128) * 256 + a % 128 < widened places (b / 128) * 256 + b % 128
    by (inl high) rest = omega (arith, rest high)
    by (inr high) rest =
        let same : a / 128 ≡ b / 128 = omega arith in
        let wide : widened places (a / 128) ≡ widened places (b / 128) = ap (widened places) same in
        omega (arith, wide)

-- they stand in one order
pub widened-cmp : (places a b : ℕ) → nat_cmp (widened places a) (widened places b) ≡ nat_cmp a b
widened-cmp places a b = by (cases_order a b)
  where
    by : ((a ≡ b) ⊎ ((a < b) ⊎ (b < a))) → nat_cmp (widened places a) (widened places b) ≡ nat_cmp a b
    by (inl same) = sym (nat_cmp_is (widened places a) (widened places b) Equal (ap (widened places) same)) ∙ nat_cmp_is a b Equal same
    by (inr (inl less)) = sym (nat_cmp_is (widened places a) (widened places b) Less (widened-less places a b less)) ∙ nat_cmp_is a b Less less
    by (inr (inr more)) = sym (nat_cmp_is (widened places a) (widened places b) Greater (widened-less places b a more)) ∙ nat_cmp_is a b Greater more

pub widened-eq : (places a b : ℕ) → (widened places a == widened places b) ≡ (a == b)
widened-eq places a b = by (cases_order a b)
  where
    by : ((a ≡ b) ⊎ ((a < b) ⊎ (b < a))) → (widened places a == widened places b) ≡ (a == b)
    by (inl same) = eq-eqb (widened places a) (widened places b) (ap (widened places) same) ∙ sym (eq-eqb a b same)
    by (inr (inl less)) =
        let wide = widened-less places a b less in
        ne_eqb (widened places a) (widened places b) (λ e. omega (arith, wide, e)) ∙ sym (ne_eqb a b (λ e. omega (arith, less, e)))
    by (inr (inr more)) =
        let wide = widened-less places b a more in
        ne_eqb (widened places a) (widened places b) (λ e. omega (arith, wide, e)) ∙ sym (ne_eqb a b (λ e. omega (arith, more, e)))

last_taken_off : (places n : ℕ) → widened (suc places) n ≡ joined (widened places (n / 128)) (n % 128 ∷ [])
unfolding widened joined
last_taken_off places n = refl

-- the last character of the number that is left when some are taken off, which is n divided by k
taken_off : (places n k : ℕ) (rest : List ℕ) → joined (widened (suc places) (n / k)) rest ≡ joined (widened places (n / (k * 128))) (n / k % 128 ∷ rest)
unfolding widened joined
taken_off places n k rest = ap (λ (left : ℕ). joined (widened places left * 256 + n / k % 128) rest) (div-div-eq-div-mul n k 128)

-- the nine characters of a number in base 128
abbrev pub characters : ℕ → List ℕ
characters n =
    (n / 2 ^ 56 % 128) ∷ (n / 2 ^ 49 % 128) ∷ (n / 2 ^ 42 % 128) ∷ (n / 2 ^ 35 % 128) ∷ (n / 2 ^ 28 % 128)
    ∷ (n / 2 ^ 21 % 128) ∷ (n / 2 ^ 14 % 128) ∷ (n / 2 ^ 7 % 128) ∷ (n % 128) ∷ []

joined_characters : (n : ℕ) → widened 9 n ≡ joined (n / 2 ^ 63) (characters n)
joined_characters n =
    let whole : joined (widened 0 (n / 2 ^ 63)) (characters n) ≡ joined (n / 2 ^ 63) (characters n) = ap (λ (w : ℕ). joined w (characters n)) (widened-zero (n / 2 ^ 63)) in
    last_taken_off 8 n ∙ taken_off 7 n (2 ^ 7) _ ∙ taken_off 6 n (2 ^ 14) _ ∙ taken_off 5 n (2 ^ 21) _ ∙ taken_off 4 n (2 ^ 28) _
    ∙ taken_off 3 n (2 ^ 35) _ ∙ taken_off 2 n (2 ^ 42) _ ∙ taken_off 1 n (2 ^ 49) _ ∙ taken_off 0 n (2 ^ 56) _ ∙ whole

characters_small : (n i : ℕ) → get_or (characters n) i 0 < 256
characters_small n zero = omega arith
characters_small n (suc zero) = omega arith
characters_small n (suc (suc zero)) = omega arith
characters_small n (suc (suc (suc zero))) = omega arith
characters_small n (suc (suc (suc (suc zero)))) = omega arith
characters_small n (suc (suc (suc (suc (suc zero))))) = omega arith
characters_small n (suc (suc (suc (suc (suc (suc zero)))))) = omega arith
characters_small n (suc (suc (suc (suc (suc (suc (suc zero))))))) = omega arith
characters_small n (suc (suc (suc (suc (suc (suc (suc (suc zero)))))))) = omega arith
characters_small n (suc (suc (suc (suc (suc (suc (suc (suc (suc i))))))))) = omega arith

-- they are the text of its number in base 256
pub text_of-widened : (n : ℕ) → widened 9 n < 2 ^ 72 → cusip_text (widened 9 n) ≡ characters n
text_of-widened n small =
    let is = joined_characters n in
    let none : n / 2 ^ 63 ≡ 0 = joined_small (n / 2 ^ 63) _ _ _ _ _ _ _ _ _ (rw is at small) in
    let whole : widened 9 n ≡ number_of (characters n) = is ∙ ap (λ (k : ℕ). joined k (characters n)) none ∙ joined_nine _ _ _ _ _ _ _ _ _ in
    ap cusip_text whole ∙ cusip_text-number_of (characters n) refl (characters_small n)

-- ---- the first bad place

first_bad_some : (xs ys : List ℕ) (place p : ℕ) → first_bad place xs ≡ Some p → first_bad place (xs ++ ys) ≡ Some p
unfolding first_bad
first_bad_some [] ys place p h = absurd cc
first_bad_some (x ∷ xs) ys place p h = by (is_listed_at place x) h (λ k. first_bad_some xs ys (place + 1) p k)
  where
    by : (b : Bool) → (if b then first_bad (place + 1) xs else Some place) ≡ Some p → (first_bad (place + 1) xs ≡ Some p → first_bad (place + 1) (xs ++ ys) ≡ Some p)
        → (if b then first_bad (place + 1) (xs ++ ys) else Some place) ≡ Some p
    by true k rest = rest k
    by false k rest = k

first_bad_none : (xs ys : List ℕ) (place : ℕ) → first_bad place xs ≡ None → first_bad place (xs ++ ys) ≡ first_bad (place + length xs) ys
unfolding first_bad
first_bad_none [] ys place h = let here : place ≡ place + 0 = omega arith in ap (λ (p : ℕ). first_bad p ys) here
first_bad_none (x ∷ xs) ys place h = by (is_listed_at place x) h (λ k. first_bad_none xs ys (place + 1) k)
  where
    by : (b : Bool) → (if b then first_bad (place + 1) xs else Some place) ≡ None → (first_bad (place + 1) xs ≡ None → first_bad (place + 1) (xs ++ ys) ≡ first_bad (place + 1 + length xs) ys)
        → (if b then first_bad (place + 1) (xs ++ ys) else Some place) ≡ first_bad (place + suc (length xs)) ys
    by true k rest =
        let one : place + 1 + length xs ≡ place + suc (length xs) = omega arith in
        rest k ∙ ap (λ (p : ℕ). first_bad p ys) one
    by false k rest = absurd cc

eight_and_one : (text : List ℕ) → length text ≡ 9 → take 8 text ++ slice_index text 8 ∷ [] ≡ text
eight_and_one text size =
    let last : drop 8 text ≡ slice_index text 8 ∷ drop 9 text = drop_more text 8 0 (omega (arith, size)) in
    let none : drop 9 text ≡ [] = drop_all 9 text (omega (arith, size)) in
    ap (λ (rest : List ℕ). take 8 text ++ rest) (sym (last ∙ ap (λ (rest : List ℕ). slice_index text 8 ∷ rest) none)) ∙ take-append-drop 8 text

-- of nine characters it is that of the first eight
pub first_bad-head : (text : List ℕ) (place : ℕ) → length text ≡ 9 → first_bad 1 (take 8 text) ≡ Some place → first_bad 1 text ≡ Some place
first_bad-head text place size h = ap (first_bad 1) (sym (eight_and_one text size)) ∙ first_bad_some (take 8 text) (slice_index text 8 ∷ []) 1 place h

-- and else the ninth, where that is no digit
pub first_bad-last : (text : List ℕ) → length text ≡ 9 → first_bad 1 (take 8 text) ≡ None → first_bad 1 text ≡ (if is_digit (slice_index text 8) then None else Some 9)
unfolding first_bad
first_bad-last text size h =
    let eight = length-take-le 8 text (omega (arith, size)) in
    ap (first_bad 1) (sym (eight_and_one text size)) ∙ first_bad_none (take 8 text) (slice_index text 8 ∷ []) 1 h
    ∙ ap (λ (k : ℕ). first_bad (1 + k) (slice_index text 8 ∷ [])) eight

pub first_bad-all : (text : List ℕ) → length text ≡ 9 → first_bad 1 (take 8 text) ≡ None → is_digit (slice_index text 8) ≡ true → first_bad 1 text ≡ None
first_bad-all text size listed digit = first_bad-last text size listed ∙ rw digit refl

-- a listed character before the ninth place
pub first_bad-step : (place c : ℕ) (cs : List ℕ) → place < 9 → is_some (value_of c) ≡ true → first_bad place (c ∷ cs) ≡ first_bad (place + 1) cs
unfolding first_bad
first_bad-step place c cs early listed = rw (ne_eqb place 9 (λ e. omega (arith, e)), listed) refl

-- and one that is not listed
pub first_bad-here : (place c : ℕ) (cs : List ℕ) → place < 9 → is_some (value_of c) ≡ false → first_bad place (c ∷ cs) ≡ Some place
unfolding first_bad
first_bad-here place c cs early unlisted = rw (ne_eqb place 9 (λ e. omega (arith, e)), unlisted) refl

pub sum_from-step : (place c : ℕ) (cs : List ℕ) → sum_from place (c ∷ cs) ≡ share_at place c + sum_from (place + 1) cs
unfolding sum_from
sum_from-step place c cs = refl

-- a share that is there, and one that is not
pub share_there : (b : Bool) (s x : ℕ) → ◌≡◌ {A = Option ℕ} (Some s) (if b then Some x else None) → (b ≡ true) × (s ≡ x)
share_there true s x e = (refl, cc)
share_there false s x e = absurd cc

pub share_missing : (b : Bool) (x : ℕ) → ◌≡◌ {A = Option ℕ} None (if b then Some x else None) → b ≡ false
share_missing true x e = absurd cc
share_missing false x e = refl

-- ---- a text of nine characters

pub read_bad : (text : List ℕ) (place : ℕ) → length text ≡ 9 → first_bad 1 text ≡ Some place → read_cusip text ≡ Err (fault.BadChar place)
unfolding read_cusip
read_bad text place size bad = rw (size, bad) refl

pub read_listed : (text : List ℕ) → length text ≡ 9 → first_bad 1 text ≡ None
    → read_cusip text ≡ (if slice_index text 8 == 48 + check_digit text then Ok (number_of text) else Err (fault.CheckDigit (check_digit text)))
unfolding read_cusip
read_listed text size listed = rw (size, listed) refl

-- the number of the first eight in base 128, and the ninth, make the number of all nine
pub widened-nine : (text : List ℕ) (head digit : ℕ) → length text ≡ 9 → widened 8 head ≡ from_be_bytes w64 (take 8 text) → slice_index text 8 ≡ digit → digit < 128
    → widened 9 (head * 128 + digit) ≡ number_of text
widened-nine text head digit size is last small =
    let push : widened 9 (head * 128 + digit) ≡ widened 8 head * 256 + digit = widened-push 8 head digit small in
    omega (arith, push, is, last, nine text size)

-- what is read is a CUSIP, and its text is what was read
pub is_cusip : (text : List ℕ) (n : ℕ) → length text ≡ 9 → ((i : ℕ) → get_or text i 0 < 256) → first_bad 1 text ≡ None
    → slice_index text 8 ≡ 48 + check_digit text → n ≡ number_of text → IsCusip n
unfolding read_cusip
is_cusip text n size bytes listed digit is =
    let back : cusip_text n ≡ text = ap cusip_text is ∙ cusip_text-number_of text size bytes in
    let right = eq-eqb (slice_index text 8) (48 + check_digit text) digit in
    let reads : read_cusip text ≡ Ok (number_of text) = rw (size, listed, right) refl in
    record {
      small = rw is (number_of-small text size bytes);
      reads = ap read_cusip back ∙ reads ∙ ap Ok (sym is);
    }

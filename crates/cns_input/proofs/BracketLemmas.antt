-- Lines that begin with no bracket are no heads.
use Rattle.std.proofs.Common.{◌≡◌, ◌<◌, ◌≤◌, ◌+◌, ◌-◌, ℕ, zero, suc, List, [], ◌∷◌, ◌++◌, length, take, drop, Option, Some, None, Bool, true, false, refl, sym, ap, ◌∙◌, inl, inr, arith, rules, take-add, length-drop}
use Rattle.std.specs.Prelude.{◌⊎◌, ◌==◌, if◌then◌else◌, slice_index}
use Rattle.std.specs.Io.BufRead.{ends_with_byte, strip_last}
use Rattle.std.proofs.lemmas.Bool.{and_parts, cases_Bool, cases_lt, eqb-true}
use Rattle.std.proofs.lemmas.List.{drop-drop, get_or-take, get_or-drop, length-take, take-take, take_all, drop_all}
use Rattle.memchr.specs.Find.{NoneBefore, Nowhere, Passes, is_byte}
use Rattle.cns_trades.specs.Fields.{same_text}
use Rattle.cns_input.specs.Sections.{BeginsWithBracket, IsPassed, line_size, line_text, raw_lines, split_at_head}
use Rattle.cns_input.proofs.SectionLemmas.{head_step, is_head, with_front, with_front-twice}

-- a list is a first part of another
abbrev IsFront : List ℕ → List ℕ → Type 0
IsFront xs ys = (k : ℕ) × (ys ≡ take k xs)

front_of_front : (xs ys zs : List ℕ) → IsFront xs ys → IsFront ys zs → IsFront xs zs
front_of_front xs ys zs (k, is) (j, at) = elim (cases_lt k j) [
  | inl high ↦ (k, at ∙ take_all j ys (omega (arith, ap length is, length-take k xs, high)) ∙ is)
  | inr low ↦ (j, at ∙ ap (take j) is ∙ take-take j k xs low)
]

strip_front : (b : ℕ) (xs : List ℕ) → IsFront xs (strip_last b xs)
strip_front b xs = by (ends_with_byte b xs)
  where
    by : (ends : Bool) → IsFront xs (if ends then take (length xs - 1) xs else xs)
    by true = (length xs - 1, refl)
    by false = (length xs, sym (take_all (length xs) xs (omega arith)))

-- a line without its end is a first part of it
text_front : (line : List ℕ) → IsFront line (line_text line)
text_front line = by (ends_with_byte 10 line)
  where
    by : (ends : Bool) → IsFront line (if ends then strip_last 13 (strip_last 10 line) else line)
    by true = front_of_front line (strip_last 10 line) (strip_last 13 (strip_last 10 line)) (strip_front 10 line) (strip_front 13 (strip_last 10 line))
    by false = (length line, sym (take_all (length line) line (omega arith)))

-- texts that are the same begin with the same byte
same_first : (text head : List ℕ) → same_text text head ≡ true → 0 < length head → (0 < length text) × (slice_index text 0 ≡ slice_index head 0)
same_first text [] same some = absurd (omega (arith, some))
same_first [] (h ∷ hs) same some = search (rules, same)
same_first (c ∷ cs) (h ∷ hs) same some = (omega arith, eqb-true c h (and_parts (c == h) (same_text cs hs) same).0)

front_first : (xs ys : List ℕ) → IsFront xs ys → 0 < length ys → slice_index ys 0 ≡ slice_index xs 0
front_first xs ys (k, is) some = ap (λ l. slice_index l 0) is ∙ get_or-take k xs 0 0 (omega (arith, ap length is, length-take k xs, some))

-- a line that begins with another byte is no head
no_head : (head line : List ℕ) → BeginsWithBracket head → (slice_index line 0 ≡ 91 → ⊥) → is_head head line ≡ false
no_head head line begins other = elim (cases_Bool (is_head head line)) [
  | inl is ↦
      let first = same_first (line_text line) head is begins.0 in
      absurd (other (sym (front_first line (line_text line) (text_front line) first.0) ∙ first.1 ∙ begins.1))
  | inr not ↦ not
]

-- ---- the first line of a text

line_some : (xs : List ℕ) → 0 < length xs → 0 < line_size xs
unfolding line_size
line_some [] some = absurd (omega (arith, some))
line_some (c ∷ cs) some = by (c == 10)
  where
    by : (b : Bool) → 0 < (if b then 1 else line_size cs + 1)
    by true = omega arith
    by false = omega arith

-- it ends at the first LF at the latest
line_within : (xs : List ℕ) (k : ℕ) → k < length xs → slice_index xs k ≡ 10 → line_size xs ≤ k + 1
unfolding line_size
line_within [] k low ends = absurd (omega (arith, low))
line_within (c ∷ cs) zero low ends = rw ends (omega arith)
line_within (c ∷ cs) (suc k) low ends = by (c == 10) (line_within cs k (omega (arith, low)) ends)
  where
    by : (b : Bool) → line_size cs ≤ k + 1 → (if b then 1 else line_size cs + 1) ≤ suc k + 1
    by true more = omega arith
    by false more = omega (arith, more)

-- and it ends with one where more follows
line_ends_with : (xs : List ℕ) → line_size xs < length xs → slice_index xs (line_size xs - 1) ≡ 10
unfolding line_size
line_ends_with [] more = absurd (omega (arith, more))
line_ends_with (c ∷ cs) more = by (c == 10) refl (line_ends_with cs)
  where
    by : (b : Bool) → (c == 10) ≡ b → (line_size cs < length cs → slice_index cs (line_size cs - 1) ≡ 10) → slice_index (c ∷ cs) ((if c == 10 then 1 else line_size cs + 1) - 1) ≡ 10
    by true is later = rw is (eqb-true c 10 is)
    by false is later =
        let size : (if c == 10 then 1 else line_size cs + 1) ≡ line_size cs + 1 = rw is refl in
        let low : line_size cs < length cs = omega (arith, more, size) in
        let some : 0 < line_size cs = line_some cs (omega (arith, low)) in
        let last : slice_index cs (line_size cs - 1) ≡ 10 = later low in
        let place : line_size cs + 1 - 1 ≡ suc (line_size cs - 1) = omega (arith, some) in
        rw (is, place) last

-- from within it, what is left of it
line_left : (xs : List ℕ) (i : ℕ) → i < line_size xs → line_size xs ≡ i + line_size (drop i xs)
unfolding line_size
line_left [] i low = absurd (omega (arith, low))
line_left (c ∷ cs) zero low = omega arith
line_left (c ∷ cs) (suc i) low = by (c == 10) refl (line_left cs i)
  where
    by : (b : Bool) → (c == 10) ≡ b → (i < line_size cs → line_size cs ≡ i + line_size (drop i cs)) → (if c == 10 then 1 else line_size cs + 1) ≡ suc i + line_size (drop i cs)
    by true is later = let size : (if c == 10 then 1 else line_size cs + 1) ≡ 1 = rw is refl in absurd (omega (arith, low, size))
    by false is later =
        let size : (if c == 10 then 1 else line_size cs + 1) ≡ line_size cs + 1 = rw is refl in
        let rest : line_size cs ≡ i + line_size (drop i cs) = later (omega (arith, low, size)) in
        omega (arith, size, rest)

-- ---- lines that are passed over

with_none : (o : Option (List ℕ × List ℕ)) → with_front [] o ≡ o
with_none None = refl
with_none (Some p) = refl

pass_none : (head xs : List ℕ) → IsPassed head xs 0
pass_none head xs = sym (with_none (split_at_head head xs))

pub pass_both : (head xs : List ℕ) (n m : ℕ) → IsPassed head xs n → IsPassed head (drop n xs) m → IsPassed head xs (n + m)
pass_both head xs n m first then' =
    let front : take (n + m) xs ≡ take n xs ++ take m (drop n xs) = take-add n m xs in
    let back : drop (n + m) xs ≡ drop m (drop n xs) = sym (drop-drop m n xs) in
    first ∙ ap (with_front (take n xs)) then' ∙ with_front-twice (take n xs) (take m (drop n xs)) (split_at_head head (drop m (drop n xs))) ∙ sym (rw (front, back) refl)

-- a line that begins with no bracket
pass_line : (head xs : List ℕ) → BeginsWithBracket head → 0 < length xs → (slice_index xs 0 ≡ 91 → ⊥) → IsPassed head xs (line_size xs)
pass_line head xs begins some other =
    let size = line_some xs some in
    let first : slice_index (take (line_size xs) xs) 0 ≡ slice_index xs 0 = get_or-take (line_size xs) xs 0 0 size in
    head_step head xs some ∙ rw (no_head head (take (line_size xs) xs) begins (λ is. other (sym first ∙ is))) refl

-- no bracket stands before a place
abbrev pub NoBracket : List ℕ → ℕ → Type 0
NoBracket xs i = Nowhere (Passes (is_byte 91) xs) 0 i

first_other : (xs : List ℕ) (i : ℕ) → NoBracket xs i → 0 < i → slice_index xs 0 ≡ 91 → ⊥
first_other xs i none some is = none 0 (omega arith) some (rw is refl)

none_later : (xs : List ℕ) (i n : ℕ) → NoBracket xs i → n ≤ i → NoBracket (drop n xs) (i - n)
none_later xs i n none low k from to is =
    none (n + k) (omega arith) (omega (arith, to, low)) (ap (λ c. is_byte 91 c) (sym (get_or-drop n xs k 0)) ∙ is)

-- the lines before a bracket that begins a line
pub pass_before : (fuel : ℕ) (head xs : List ℕ) (i : ℕ) → BeginsWithBracket head → i ≤ fuel → i ≤ length xs → NoBracket xs i → ((j : ℕ) → i ≡ j + 1 → slice_index xs j ≡ 10) → IsPassed head xs i
pass_before fuel head xs zero begins few within none starts = pass_none head xs
pass_before zero head xs (suc i) begins few within none starts = absurd (omega (arith, few))
pass_before (suc fuel) head xs (suc i) begins few within none starts =
    let size = line_size xs in
    let some : 0 < size = line_some xs (omega (arith, within)) in
    let low : size ≤ suc i = omega (arith, line_within xs i (omega (arith, within)) (starts i (omega arith))) in
    let line : IsPassed head xs size = pass_line head xs begins (omega (arith, within)) (first_other xs (suc i) none (omega arith)) in
    let rest : IsPassed head (drop size xs) (suc i - size) =
    pass_before fuel head (drop size xs) (suc i - size) begins (omega (arith, few, some)) (omega (arith, within, length-drop size xs)) (none_later xs (suc i) size none low)
    (λ j is. get_or-drop size xs j 0 ∙ starts (size + j) (omega (arith, is, low))) in
    let all : size + (suc i - size) ≡ suc i = omega (arith, low) in
    rw (← all) (pass_both head xs size (suc i - size) line rest)

-- and those up to the end of the line in which a bracket stands, where it begins none
pub pass_inside : (fuel : ℕ) (head xs : List ℕ) (i : ℕ) → BeginsWithBracket head → i ≤ fuel → i < length xs → NoBracket xs i → (j : ℕ) → i ≡ j + 1 → (slice_index xs j ≡ 10 → ⊥)
    → IsPassed head xs (i + line_size (drop i xs))
pass_inside zero head xs i begins few within none j is inside = absurd (omega (arith, few, is))
pass_inside (suc fuel) head xs i begins few within none j is inside = by (pass_inside fuel head (drop size xs) (i - size) begins) (cases_lt i size)
  where
    size : ℕ
    size = line_size xs

    pos : 0 < size
    pos = line_some xs (omega (arith, within))

    line : IsPassed head xs size
    line = pass_line head xs begins (omega (arith, within)) (first_other xs i none (omega (arith, is)))

    by : (i - size ≤ fuel → i - size < length (drop size xs) → NoBracket (drop size xs) (i - size) → (k : ℕ) → i - size ≡ k + 1 → (slice_index (drop size xs) k ≡ 10 → ⊥)
        → IsPassed head (drop size xs) (i - size + line_size (drop (i - size) (drop size xs)))) → (i < size) ⊎ (size ≤ i) → IsPassed head xs (i + line_size (drop i xs))
    by later (inl low) = rw (← line_left xs i low) line
    by later (inr high) =
        let ends : slice_index xs (size - 1) ≡ 10 = line_ends_with xs (omega (arith, high, within)) in
        let less : size < i = elim (cases_lt size i) [
          | inl less ↦ less
          | inr same ↦ let at : size - 1 ≡ j = omega (arith, same, high, is) in absurd (inside (rw (← at) ends))
        ] in
        let at : size + (i - size - 1) ≡ j = omega (arith, less, is) in
        let rest = later (omega (arith, few, pos)) (omega (arith, within, high, length-drop size xs)) (none_later xs i size none high) (i - size - 1) (omega (arith, less))
        (λ ends. inside (rw (← at) (sym (get_or-drop size xs (i - size - 1) 0) ∙ ends))) in
        let all : size + (i - size) ≡ i = omega (arith, high) in
        let back : drop (i - size) (drop size xs) ≡ drop i xs = drop-drop (i - size) size xs ∙ rw all refl in
        let both : size + (i - size + line_size (drop i xs)) ≡ i + line_size (drop i xs) = omega (arith, high) in
        rw (← both) (pass_both head xs size (i - size + line_size (drop i xs)) line (rw (← back) rest))

-- a text in which no bracket stands has no head
pub no_bracket : (fuel : ℕ) (head xs : List ℕ) → BeginsWithBracket head → length xs ≤ fuel → NoBracket xs (length xs) → split_at_head head xs ≡ None
unfolding raw_lines split_at_head
no_bracket fuel head [] begins few none = refl
no_bracket zero head (c ∷ cs) begins few none = absurd (omega (arith, few))
no_bracket (suc fuel) head (c ∷ cs) begins few none =
    let xs = c ∷ cs in
    let size = line_size xs in
    let some : 0 < size = line_some xs (omega arith) in
    let line : IsPassed head xs size = pass_line head xs begins (omega arith) (first_other xs (length xs) none (omega arith)) in
    let less : length (drop size xs) ≡ length xs - size = length-drop size xs in
    elim (cases_lt size (length xs)) [
      | inl more ↦ line ∙ rw (no_bracket fuel head (drop size xs) begins (omega (arith, less, few, some)) (rw less (none_later xs (length xs) size none (omega (arith, more))))) refl
      | inr all ↦ line ∙ rw (drop_all size xs all) refl
    ]

-- ---- the next line that begins with a bracket, from a place on up to which no head stands

abbrev AllPassed : List ℕ → ℕ → Type 0
AllPassed text n = (head : List ℕ) → BeginsWithBracket head → IsPassed head text n

-- a bracket that begins a line
pub bracket_begins : (text : List ℕ) (at k : ℕ) → at ≤ length text → AllPassed text at → NoneBefore (Passes (is_byte 91) (drop at text)) 0 (length (drop at text)) k
    → ((j : ℕ) → k ≡ j + 1 → slice_index (drop at text) j ≡ 10) → (head : List ℕ) → BeginsWithBracket head → (at + k < length text) × IsPassed head text (at + k)
bracket_begins text at k within passed first starts head begins =
    let rest : IsPassed head (drop at text) k = pass_before k head (drop at text) k begins (omega arith) (omega (arith, first.high)) first.before starts in
    (omega (arith, within, first.high, length-drop at text), pass_both head text at k (passed head begins) rest)

-- one that stands in a line
pub bracket_inside : (text : List ℕ) (at k : ℕ) → at ≤ length text → AllPassed text at → NoneBefore (Passes (is_byte 91) (drop at text)) 0 (length (drop at text)) k
    → (j : ℕ) → k ≡ j + 1 → (slice_index (drop at text) j ≡ 10 → ⊥) → AllPassed text (at + k + line_size (drop (at + k) text))
bracket_inside text at k within passed first j is inside head begins =
    let rest = pass_inside k head (drop at text) k begins (omega arith) first.high first.before j is inside in
    let both = pass_both head text at (k + line_size (drop k (drop at text))) (passed head begins) rest in
    let all : at + (k + line_size (drop (at + k) text)) ≡ at + k + line_size (drop (at + k) text) = omega arith in
    rw (← all) (rw (drop-drop k at text) at both)

-- where none stands
pub bracket_nowhere : (text : List ℕ) (at : ℕ) → AllPassed text at → NoBracket (drop at text) (length (drop at text)) → (head : List ℕ) → BeginsWithBracket head → split_at_head head text ≡ None
bracket_nowhere text at passed none head begins = passed head begins ∙ rw (no_bracket (length (drop at text)) head (drop at text) begins (omega arith) none) refl

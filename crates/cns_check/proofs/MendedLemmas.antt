-- The letters of a line, the name that they may be, and a text whose heads are mended.
use Rattle.std.proofs.Common.{◌≡◌, ◌<◌, ◌≤◌, ◌+◌, ℕ, List, [], ◌∷◌, ◌++◌, length, take, drop, map, Bool, true, false, bytes_eq, refl, sym, ap, ◌∙◌, append_assoc, arith, length-append, take-append-drop}
use Rattle.std.specs.Prelude.{◌==◌, not, slice_index_or, if◌then◌else◌, filter, flat_map}
use Rattle.std.specs.Char.{to_ascii_lowercase}
use Rattle.std.proofs.Math.Dec.{eqb-suc-zero}
use Rattle.std.proofs.Math.Seq.{drop-append_seam}
use Rattle.std.proofs.lemmas.Bool.{eqb-true}
use Rattle.std.proofs.lemmas.List.{append-nil, drop_more, take_all}
use Rattle.std.proofs.lemmas.Slice.Eq.{bytes_eq-Decides}
use Rattle.cns_input.specs.Sections.{line_size, raw_lines}
use Rattle.cns_input.proofs.SectionLemmas.{lines_step}
use Rattle.cns_check.specs.Mended.{is_beside, letters_of, mended, mended_line}

letters_both : (a b : List ℕ) → letters_of (a ++ b) ≡ letters_of a ++ letters_of b
letters_both [] b = refl
letters_both (c ∷ cs) b = by (is_beside c) (letters_both cs b)
  where
    by : (t : Bool) → letters_of (cs ++ b) ≡ letters_of cs ++ letters_of b
        → map to_ascii_lowercase (if not t then c ∷ filter (λ x. not (is_beside x)) (cs ++ b) else filter (λ x. not (is_beside x)) (cs ++ b))
        ≡ map to_ascii_lowercase (if not t then c ∷ filter (λ x. not (is_beside x)) cs else filter (λ x. not (is_beside x)) cs) ++ letters_of b
    by true more = more
    by false more = ap (λ l. to_ascii_lowercase c ∷ l) more

letters_from : (line : List ℕ) (i : ℕ) → i < length line → is_beside (slice_index_or line i 0) ≡ false
    → letters_of line ≡ letters_of (take i line) ++ to_ascii_lowercase (slice_index_or line i 0) ∷ letters_of (drop (i + 1) line)
letters_from line i lt is =
    let x = slice_index_or line i 0 in
    let here : letters_of (x ∷ drop (i + 1) line) ≡ to_ascii_lowercase x ∷ letters_of (drop (i + 1) line) = rw is refl in
    ap letters_of (sym (take-append-drop i line)) ∙ letters_both (take i line) (drop i line)
    ∙ ap (λ l. letters_of (take i line) ++ l) (ap letters_of (drop_more line i 0 lt) ∙ here)

-- what is behind equal fronts
behind_front : (p xs ys : List ℕ) → p ++ xs ≡ p ++ ys → xs ≡ ys
behind_front p xs ys e = sym (drop-append_seam p xs) ∙ ap (drop (length p)) e ∙ drop-append_seam p ys

other_texts : (xs ys : List ℕ) → (xs ≡ ys → ⊥) → false ≡ bytes_eq xs ys
other_texts xs ys other = by (bytes_eq xs ys) refl
  where
    by : (b : Bool) → bytes_eq xs ys ≡ b → false ≡ b
    by true is = absurd (other ((bytes_eq-Decides xs ys).0 is))
    by false is = refl

-- a letter of the line is not the next one of the name
pub other_letters : (line name rest : List ℕ) (i : ℕ) → i < length line → is_beside (slice_index_or line i 0) ≡ false → letters_of (take i line) ++ rest ≡ name
    → ((more : List ℕ) → to_ascii_lowercase (slice_index_or line i 0) ∷ more ≡ rest → ⊥) → false ≡ bytes_eq (letters_of line) name
other_letters line name rest i lt is so other =
    other_texts (letters_of line) name (λ same. other (letters_of (drop (i + 1) line))
    (behind_front (letters_of (take i line)) _ rest (sym (letters_from line i lt is) ∙ same ∙ sym so)))

same_text_as : (p : List ℕ) → bytes_eq p p ≡ true
same_text_as p = (bytes_eq-Decides p p).1 refl

-- all of the line was looked at
pub all_letters : (line name rest : List ℕ) (i : ℕ) (empty : Bool) → length line ≤ i → letters_of (take i line) ++ rest ≡ name → empty ≡ (length rest == 0)
    → empty ≡ bytes_eq (letters_of line) name
all_letters line name [] i empty le so is =
    let whole : letters_of line ≡ name = sym (append-nil (letters_of line)) ∙ ap (λ l. letters_of l ++ []) (sym (take_all i line le)) ∙ so in
    is ∙ sym (ap (λ n. bytes_eq (letters_of line) n) (sym whole) ∙ same_text_as (letters_of line))
all_letters line name (r ∷ rs) i empty le so is =
    let whole : letters_of line ++ r ∷ rs ≡ name = ap (λ l. letters_of l ++ r ∷ rs) (sym (take_all i line le)) ∙ so in
    let longer : (letters_of line ≡ name → ⊥) = λ same. omega (arith, ap length (same ∙ sym whole), length-append (letters_of line) (r ∷ rs)) in
    is ∙ eqb-suc-zero (length rs) ∙ other_texts (letters_of line) name longer

-- ---- line by line

-- the first line of what is left is mended behind what was made
pub mended_next : (out out' text rest line after done : List ℕ) (size : ℕ) (empty : Bool) → empty ≡ (length rest == 0) → empty ≡ false → size ≡ line_size rest → line ≡ take size rest
    → after ≡ drop size rest → done ≡ mended_line line → out' ≡ out ++ done → out ++ mended rest ≡ mended text → out' ++ mended after ≡ mended text
mended_next out out' text [] line after done size empty is some n l a d o so = absurd (cc (sym is ∙ some))
mended_next out out' text (c ∷ cs) line after done size empty is some n l a d o so =
    let step : mended (c ∷ cs) ≡ mended_line line ++ mended after = ap (flat_map mended_line) (lines_step c cs) ∙ rw (l, a, n) refl in
    ap (λ x. x ++ mended after) (o ∙ ap (λ x. out ++ x) d) ∙ append_assoc out (mended_line line) (mended after) ∙ ap (λ x. out ++ x) (sym step) ∙ so

-- nothing is left
pub mended_all : (out text rest : List ℕ) (empty : Bool) → empty ≡ (length rest == 0) → empty ≡ true → out ++ mended rest ≡ mended text → out ≡ mended text
unfolding raw_lines
mended_all out text [] empty is none so = sym (append-nil out) ∙ so
mended_all out text (c ∷ cs) empty is none so = absurd (omega (arith, eqb-true (length (c ∷ cs)) 0 (sym is ∙ none)))

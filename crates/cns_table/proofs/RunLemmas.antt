-- The lines of a text, one after another.
use Rattle.std.proofs.Common.{◌≡◌, ◌<◌, ◌-◌, ◌+◌, ◌≤◌, ℕ, suc, add-one, drop, List, [], ◌∷◌, length, take, Bool, true, false, Option, Some, None, Result, Ok, Err, refl, sym, ap, ◌∙◌, arith, subst}
use Rattle.std.specs.Prelude.{◌==◌, ◌↔◌, IfErr, IfSome, is_none, nat_lt, slice_index, if◌then◌else◌}
use Rattle.std.specs.Io.BufRead.{DropsThrough, drop_through, first_piece, strip_last, take_through}
use Rattle.std.specs.Io.KnownBytes.{IsAtEnd}
use Rattle.std.specs.List.{onto_first, position_from}
use Rattle.std.proofs.lemmas.Bool.{eqb-true}
use Rattle.std.proofs.lemmas.Bool.Decides.{nat_tests}
use Rattle.cns_table.specs.Faults.{IsOfEnd}
use Rattle.cns_table.specs.Place.{LineTold, place_behind, line_told}
use Rattle.cns_table.specs.Run.{IsAnswer, fault_from, text_lines}
use Rattle.cns_words.specs.Words.{is_lf}
use Rattle.cns_table.specs.Table.{IsOfLine}
use Rattle.cns_table.specs.declared.fault.TableFault.{TableFault}
use Rattle.cns_table.specs.declared.fault.TableFault.TheVariants as fault
use Rattle.cns_table.specs.declared.place.Place.{Place}

-- ---- the first line of a text

-- a list ends with LF as its rest does
strip_last-more : (c t : ℕ) (ts : List ℕ) → strip_last 10 (c ∷ t ∷ ts) ≡ c ∷ strip_last 10 (t ∷ ts)
strip_last-more c t ts =
    let long : length (c ∷ t ∷ ts) - 1 ≡ suc (length ts) = omega arith in
    let short : length (t ∷ ts) - 1 ≡ length ts = omega arith in
    let some : nat_lt 0 (length (c ∷ t ∷ ts)) ≡ true = grind (arith, nat_tests) in
    let any : nat_lt 0 (length (t ∷ ts)) ≡ true = grind (arith, nat_tests) in
    rw (some, any, long, short) (by (slice_index (t ∷ ts) (length ts) == 10))
  where
    by : (b : Bool) → (if b then take (suc (length ts)) (c ∷ t ∷ ts) else c ∷ t ∷ ts) ≡ c ∷ (if b then take (length ts) (t ∷ ts) else t ∷ ts)
    by true = refl
    by false = refl

-- what a text begins with, up to its first LF, is not empty
some_through : (c : ℕ) (cs : List ℕ) → (ts : List ℕ) × (take_through 10 (c ∷ cs) ≡ c ∷ ts)
some_through c cs = by (c == 10)
  where
    by : (b : Bool) → (ts : List ℕ) × ((if b then c ∷ [] else c ∷ take_through 10 cs) ≡ c ∷ ts)
    by true = ([], refl)
    by false = (take_through 10 cs, refl)

-- behind a byte that is no LF
lines_later : (c : ℕ) (cs : List ℕ) → (c == 10) ≡ false → (0 < length cs → text_lines cs ≡ first_piece 10 cs ∷ text_lines (drop_through 10 cs))
    → text_lines (c ∷ cs) ≡ first_piece 10 (c ∷ cs) ∷ text_lines (drop_through 10 (c ∷ cs))
unfolding text_lines
lines_later c [] is more = rw (is, is) refl
lines_later c (d ∷ ds) is more =
    let through = some_through d ds in
    let lines : text_lines (c ∷ d ∷ ds) ≡ onto_first c (text_lines (d ∷ ds)) = rw is refl in
    let front : take_through 10 (c ∷ d ∷ ds) ≡ c ∷ take_through 10 (d ∷ ds) = rw is refl in
    let rest : drop_through 10 (c ∷ d ∷ ds) ≡ drop_through 10 (d ∷ ds) = rw is refl in
    let piece : first_piece 10 (c ∷ d ∷ ds) ≡ c ∷ first_piece 10 (d ∷ ds) =
    ap (strip_last 10) (front ∙ ap (λ l. c ∷ l) through.1) ∙ strip_last-more c d through.0 ∙ ap (λ l. c ∷ strip_last 10 l) (sym through.1) in
    lines ∙ ap (onto_first c) (more (omega arith)) ∙ ap (λ p. p ∷ text_lines (drop_through 10 (d ∷ ds))) (sym piece)
    ∙ ap (λ r. first_piece 10 (c ∷ d ∷ ds) ∷ text_lines r) (sym rest)

-- a text that is not empty is its first line and the others
pub lines_step : (text : List ℕ) → 0 < length text → text_lines text ≡ first_piece 10 text ∷ text_lines (drop_through 10 text)
unfolding text_lines
lines_step [] some = absurd (omega (arith, some))
lines_step (c ∷ cs) some = by (c == 10) refl (lines_step cs)
  where
    by : (b : Bool) → (c == 10) ≡ b → (0 < length cs → text_lines cs ≡ first_piece 10 cs ∷ text_lines (drop_through 10 cs))
        → text_lines (c ∷ cs) ≡ first_piece 10 (c ∷ cs) ∷ text_lines (drop_through 10 (c ∷ cs))
    by true is more = subst (λ x. text_lines (x ∷ cs) ≡ first_piece 10 (x ∷ cs) ∷ text_lines (drop_through 10 (x ∷ cs))) (sym (eqb-true c 10 is)) refl
    by false is more = lines_later c cs is more

-- ---- what speaks against lines

fault_later : (place : Place) (n : ℕ) (line : List ℕ) (lines : List (List ℕ)) → is_none (line_told place line) ≡ false
    → fault_from place n (line ∷ lines) ≡ fault_from (place_behind place line) (n + 1) lines
unfolding fault_from
fault_later place n line lines has = rw has refl

fault_here : (place : Place) (n : ℕ) (line : List ℕ) (lines : List (List ℕ)) → line_told place line ≡ None → fault_from place n (line ∷ lines) ≡ Some (fault.Line n)
unfolding fault_from
fault_here place n line lines none = rw none refl

cut_at_end : (place : Place) (n : ℕ) → place.inside ≡ true → fault_from place n [] ≡ Some fault.Cut
unfolding fault_from
cut_at_end place n is = rw is refl

none_at_end : (place : Place) (n : ℕ) → place.inside ≡ false → fault_from place n [] ≡ None
unfolding fault_from
none_at_end place n is = rw is refl

-- ---- a reading

-- what speaks against a text that is known is what speaks against its lines that are left, from a place on
abbrev pub StandsAt : Place → Option (List ℕ) → Option (List ℕ) → Place → ℕ → Type 0
StandsAt start None left place n = Unit {0}
StandsAt start (Some text) None place n = ⊥
StandsAt start (Some text) (Some rest) place n = fault_from start 1 (text_lines text) ≡ fault_from place n (text_lines rest)

some_same : (a b : List ℕ) → Some a ≡ Some b → a ≡ b
some_same a b e = cc e

-- the lines that are left begin with the one that was read
left_lines : (place : Place) (n : ℕ) (rest line : List ℕ) → line ≡ first_piece 10 rest → 0 < length rest
    → fault_from place n (text_lines rest) ≡ fault_from place n (line ∷ text_lines (drop_through 10 rest))
left_lines place n rest line is some = ap (fault_from place n) (lines_step rest some ∙ ap (λ l. l ∷ text_lines (drop_through 10 rest)) (sym is))

-- behind a line that has its place
pub stands_behind : (start : Place) (known left next : Option (List ℕ)) (place new : Place) (n : ℕ) (line : List ℕ) → StandsAt start known left place n
    → IfSome left (λ text. line ≡ first_piece 10 text) → IfSome left (λ text. 0 < length text) → DropsThrough left next 10
    → is_none (line_told place line) ≡ false → new ≡ place_behind place line → StandsAt start known next new (n + 1)
stands_behind start None left next place new n line at is some drops has to = tt
stands_behind start (Some text) None next place new n line at is some drops has to = absurd at
stands_behind start (Some text) (Some rest) None place new n line at is some drops has to = absurd (cc drops)
stands_behind start (Some text) (Some rest) (Some more) place new n line at is some drops has to =
    let same : more ≡ drop_through 10 rest = some_same more (drop_through 10 rest) drops in
    at ∙ left_lines place n rest line is some ∙ fault_later place n line (text_lines (drop_through 10 rest)) has
    ∙ ap (λ p. fault_from p (n + 1) (text_lines (drop_through 10 rest))) (sym to) ∙ ap (λ r. fault_from new (n + 1) (text_lines r)) (sym same)

-- at a line that has no place
refused_at : (start : Place) (known left : Option (List ℕ)) (place : Place) (n : ℕ) (line : List ℕ) → StandsAt start known left place n
    → IfSome left (λ text. line ≡ first_piece 10 text) → IfSome left (λ text. 0 < length text) → line_told place line ≡ None
    → IfSome known (λ text. fault_from start 1 (text_lines text) ≡ Some (fault.Line n))
refused_at start None left place n line at is some none = tt
refused_at start (Some text) None place n line at is some none = absurd at
refused_at start (Some text) (Some rest) place n line at is some none =
    at ∙ left_lines place n rest line is some ∙ fault_here place n line (text_lines (drop_through 10 rest)) none

-- ---- the answers

abbrev pub failed : TableFault → Result (Unit {0}) TableFault
failed e = Err e

abbrev pub taken : Result (Unit {0}) TableFault
taken = Ok tt

abbrev pub AnswersOf : Place → Option (List ℕ) → Result (Unit {0}) TableFault → Type 0
AnswersOf start known result = IfSome known (λ text. IsAnswer result (fault_from start 1 (text_lines text)))

pub line_refused : (start : Place) (known left : Option (List ℕ)) (place : Place) (n : ℕ) (line : List ℕ) (e : TableFault) → StandsAt start known left place n
    → IfSome left (λ text. line ≡ first_piece 10 text) → IfSome left (λ text. 0 < length text) → IsOfLine n e
    → (failed e ≡ failed (fault.Line n) → line_told place line ≡ None) → AnswersOf start known (Err e)
line_refused start None left place n line fault.Read at is some of none = tt
line_refused start None left place n line (fault.Line m) at is some of none = tt
line_refused start None left place n line fault.Cut at is some of none = tt
line_refused start None left place n line fault.Memory at is some of none = tt
line_refused start None left place n line fault.Write at is some of none = tt
line_refused start (Some text) left place n line fault.Read at is some of none = tt
line_refused start (Some text) left place n line (fault.Line m) at is some of none =
    let here = refused_at start (Some text) left place n line at is some (none (ap (λ k. failed (fault.Line k)) of)) in
    here ∙ ap (λ k. Some (fault.Line k)) (sym of)
line_refused start (Some text) left place n line fault.Cut at is some of none = absurd of
line_refused start (Some text) left place n line fault.Memory at is some of none = tt
line_refused start (Some text) left place n line fault.Write at is some of none = tt

end_answer : (place : Place) (n : ℕ) (result : Result (Unit {0}) TableFault) → ((result ≡ Err fault.Cut) ↔ (place.inside ≡ true)) → IfErr result IsOfEnd
    → IsAnswer result (fault_from place n [])
end_answer place n (Ok v) cut of = none_at_end place n (by place.inside refl)
  where
    by : (b : Bool) → place.inside ≡ b → place.inside ≡ false
    by true is = cc (cut.1 is)
    by false is = is
end_answer place n (Err fault.Read) cut of = tt
end_answer place n (Err (fault.Line m)) cut of = absurd of
end_answer place n (Err fault.Cut) cut of = cut_at_end place n (cut.0 refl)
end_answer place n (Err fault.Memory) cut of = tt
end_answer place n (Err fault.Write) cut of = tt

pub ended : (start : Place) (known left : Option (List ℕ)) (place : Place) (n : ℕ) (result : Result (Unit {0}) TableFault) → StandsAt start known left place n
    → IsAtEnd left → ((result ≡ Err fault.Cut) ↔ (place.inside ≡ true)) → IfErr result IsOfEnd → AnswersOf start known result
unfolding text_lines
ended start None left place n result at end cut of = tt
ended start (Some text) None place n result at end cut of = absurd at
ended start (Some text) (Some rest) place n result at end cut of =
    let all : fault_from start 1 (text_lines text) ≡ fault_from place n [] = at ∙ ap (λ r. fault_from place n (text_lines r)) end in
    subst (IsAnswer result) (sym all) (end_answer place n result cut of)

-- a line that was taken has its place
pub has_place : (place : Place) (line : List ℕ) (n : ℕ) → ((taken ≡ Err (fault.Line n)) ↔ (line_told place line ≡ None)) → is_none (line_told place line) ≡ false
has_place place line n refused = by (line_told place line) refl
  where
    by : (o : Option LineTold) → line_told place line ≡ o → is_none o ≡ false
    by None e = cc (refused.1 e)
    by (Some t) e = refl

-- ---- a text in memory

same_place : (a b : ℕ) → Some a ≡ Some b → a ≡ b
same_place a b e = cc e

-- a list of lines begins with the one that ends there
abbrev BeginsAt : ℕ → List ℕ → List (List ℕ) → Option ℕ → Type 0
BeginsAt k text lines None = lines ≡ text ∷ []
BeginsAt k text lines (Some i) = (k ≤ i) × (lines ≡ take (i - k) text ∷ text_lines (drop (suc (i - k)) text))

cut_from : (k c : ℕ) (cs : List ℕ) (o : Option ℕ) → position_from is_lf k (c ∷ cs) ≡ o → BeginsAt k (c ∷ cs) (text_lines (c ∷ cs)) o
unfolding text_lines
cut_from k c [] o h = by (c == 10) o h
  where
    by : (b : Bool) (o : Option ℕ) → (if b then Some k else None) ≡ o → BeginsAt k (c ∷ []) (if b then [] ∷ [] else (c ∷ []) ∷ []) o
    by true None h = cc h
    by true (Some i) h =
        let same : k ≡ i = same_place k i h in
        let none : i - k ≡ 0 = omega (arith, same) in
        (omega (arith, same), rw none refl)
    by false None h = refl
    by false (Some i) h = cc h
cut_from k c (d ∷ ds) o h = by (c == 10) o h (cut_from (k + 1) d ds)
  where
    by : (b : Bool) (o : Option ℕ) → (if b then Some k else position_from is_lf (k + 1) (d ∷ ds)) ≡ o
        → ((o : Option ℕ) → position_from is_lf (k + 1) (d ∷ ds) ≡ o → BeginsAt (k + 1) (d ∷ ds) (text_lines (d ∷ ds)) o)
        → BeginsAt k (c ∷ d ∷ ds) (if b then [] ∷ text_lines (d ∷ ds) else onto_first c (text_lines (d ∷ ds))) o
    by true None h more = cc h
    by true (Some i) h more =
        let same : k ≡ i = same_place k i h in
        let none : i - k ≡ 0 = omega (arith, same) in
        (omega (arith, same), rw none refl)
    by false None h more = ap (onto_first c) (more None h)
    by false (Some i) h more =
        let m = more (Some i) h in
        let next : i - k ≡ suc (i - (k + 1)) = omega (arith, m.0) in
        (omega (arith, m.0), rw next (ap (onto_first c) m.1))

pub line_ends : (text : List ℕ) (i : ℕ) → 0 < length text → position_from is_lf 0 text ≡ Some i → text_lines text ≡ take i text ∷ text_lines (drop (i + 1) text)
line_ends [] i some h = absurd (omega (arith, some))
line_ends (c ∷ cs) i some h = let all : i - 0 ≡ i = omega arith in rw (add-one i) (rw all at ((cut_from 0 c cs (Some i) h).1))

pub line_is_last : (text : List ℕ) → 0 < length text → position_from is_lf 0 text ≡ None → text_lines text ≡ text ∷ []
line_is_last [] some h = absurd (omega (arith, some))
line_is_last (c ∷ cs) some h = cut_from 0 c cs None h

pub no_line : (text : List ℕ) → length text ≡ 0 → text_lines text ≡ []
unfolding text_lines
no_line [] none = refl
no_line (c ∷ cs) none = absurd (omega (arith, none))

-- Lines of texts that end with an LF, and the sections of the text that files make.
use Rattle.std.proofs.Common.{◌≡◌, ◌+◌, ◌-◌, ℕ, suc, List, [], ◌∷◌, ◌++◌, length, take, drop, map, Some, Bool, true, false, refl, sym, ap, ap₂, ◌∙◌, add-one, append_assoc, arith, length-append, take-append-drop, codes}
use Rattle.std.specs.Prelude.{◌==◌, ◌||◌, not, Ok, flat_map, slice_index, if◌then◌else◌}
use Rattle.std.specs.Io.BufRead.{ends_with_byte, strip_last}
use Rattle.std.specs.List.{concat, list_any, onto_first, starts_with}
use Rattle.std.proofs.Math.Dec.{eqb-suc-zero}
use Rattle.std.proofs.lemmas.Bool.{lt-ltb}
use Rattle.std.proofs.lemmas.List.Folds.{list_any-append}
use Rattle.std.proofs.Math.Seq.{take-append_seam}
use Rattle.std.proofs.lemmas.Slice.Eq.{bytes_eq-Decides}
use Rattle.cns_ids.specs.Steps.{◌>>◌, need}
use Rattle.cns_trades.specs.Fields.{same_text}
use Rattle.cns_input.specs.Sections.{line_size, line_text, raw_lines, sections, split_at_head}
use Rattle.cns_input.proofs.SectionLemmas.{find_head, find_step, is_head, joined_lines, lines_step, with_front}
use Rattle.cns_named.specs.Named.{behind_first, ended, has_line, rows_of_all, text_of_files}
use Rattle.cns_named.specs.declared.named.NamedFault.TheVariants as fault

-- ---- texts that are empty or end with an LF

abbrev is_closed : List ℕ → Bool
is_closed [] = true
is_closed (c ∷ []) = c == 10
is_closed (c ∷ d ∷ ds) = is_closed (d ∷ ds)

closed_step : (c d : ℕ) (ds : List ℕ) → ((length (d ∷ ds) == 0) || ends_with_byte 10 (d ∷ ds)) ≡ is_closed (d ∷ ds)
    → ((length (c ∷ d ∷ ds) == 0) || ends_with_byte 10 (c ∷ d ∷ ds)) ≡ is_closed (d ∷ ds)
closed_step c d ds more =
    let n = length ds in
    let one_less : suc (suc n) - 1 ≡ suc n = omega arith in
    let none_less : suc n - 1 ≡ n = omega arith in
    let last : (slice_index (d ∷ ds) n == 10) ≡ is_closed (d ∷ ds) = rw (eqb-suc-zero n, lt-ltb 0 (suc n) (omega arith), none_less) at more in
    rw (eqb-suc-zero (suc n), lt-ltb 0 (suc (suc n)) (omega arith), one_less) last

closed_is : (xs : List ℕ) → ((length xs == 0) || ends_with_byte 10 xs) ≡ is_closed xs
closed_is [] = refl
closed_is (c ∷ []) = refl
closed_is (c ∷ d ∷ ds) = closed_step c d ds (closed_is (d ∷ ds))

ended_by : (xs : List ℕ) → ended xs ≡ (if is_closed xs then xs else xs ++ 10 ∷ [])
ended_by xs = rw (closed_is xs) refl

closed_lf : (xs : List ℕ) → is_closed (xs ++ 10 ∷ []) ≡ true
closed_lf [] = refl
closed_lf (c ∷ []) = refl
closed_lf (c ∷ d ∷ ds) = closed_lf (d ∷ ds)

closed_ended : (xs : List ℕ) → is_closed (ended xs) ≡ true
closed_ended xs = ap is_closed (ended_by xs) ∙ by (is_closed xs) refl
  where
    by : (b : Bool) → is_closed xs ≡ b → is_closed (if b then xs else xs ++ 10 ∷ []) ≡ true
    by true is = is
    by false is = closed_lf xs

closed_both : (a b : List ℕ) → is_closed a ≡ true → is_closed b ≡ true → is_closed (a ++ b) ≡ true
closed_both [] b one two = two
closed_both (c ∷ []) [] one two = one
closed_both (c ∷ []) (d ∷ ds) one two = two
closed_both (c ∷ d ∷ ds) b one two = closed_both (d ∷ ds) b one two

-- ---- their lines

-- a text that is not empty has a first line with its first byte
first_line_is : (c : ℕ) (cs : List ℕ) → (l : List ℕ) × (ls : List (List ℕ)) × (raw_lines (c ∷ cs) ≡ (c ∷ l) ∷ ls)
unfolding raw_lines
first_line_is c cs = by (c == 10) (raw_lines cs)
  where
    by : (b : Bool) (ls : List (List ℕ)) → (l : List ℕ) × (more : List (List ℕ)) × ((if b then (c ∷ []) ∷ ls else onto_first c ls) ≡ (c ∷ l) ∷ more)
    by true ls = ([], ls, refl)
    by false [] = ([], [], refl)
    by false (l ∷ ls) = (l, ls, refl)

lines_of_both : (a b : List ℕ) → is_closed a ≡ true → raw_lines (a ++ b) ≡ raw_lines a ++ raw_lines b
unfolding raw_lines
lines_of_both [] b closed = refl
lines_of_both (c ∷ []) b closed = rw closed refl
lines_of_both (c ∷ d ∷ ds) b closed = by (c == 10) (first_line_is d ds) (lines_of_both (d ∷ ds) b closed)
  where
    by : (t : Bool) → (l : List ℕ) × (ls : List (List ℕ)) × (raw_lines (d ∷ ds) ≡ (d ∷ l) ∷ ls) → raw_lines ((d ∷ ds) ++ b) ≡ raw_lines (d ∷ ds) ++ raw_lines b
        → (if t then (c ∷ []) ∷ raw_lines ((d ∷ ds) ++ b) else onto_first c (raw_lines ((d ∷ ds) ++ b)))
        ≡ (if t then (c ∷ []) ∷ raw_lines (d ∷ ds) else onto_first c (raw_lines (d ∷ ds))) ++ raw_lines b
    by true some more = ap (λ ls. (c ∷ []) ∷ ls) more
    by false (l, ls, is) more = rw (more, is) refl

-- one more byte in front of a text that is not empty
ended_step : (c d : ℕ) (ds : List ℕ) → ended (c ∷ d ∷ ds) ≡ c ∷ ended (d ∷ ds)
ended_step c d ds = ended_by (c ∷ d ∷ ds) ∙ by (is_closed (d ∷ ds)) ∙ sym (ap (λ l. c ∷ l) (ended_by (d ∷ ds)))
  where
    by : (b : Bool) → (if b then c ∷ d ∷ ds else (c ∷ d ∷ ds) ++ 10 ∷ []) ≡ c ∷ (if b then d ∷ ds else (d ∷ ds) ++ 10 ∷ [])
    by true = refl
    by false = refl

-- one byte
lone_end : (c : ℕ) → (c == 10) ≡ true → ended (c ∷ []) ≡ c ∷ []
lone_end c is = let taken : (if c == 10 then c ∷ [] else c ∷ 10 ∷ []) ≡ c ∷ [] = rw is refl in ended_by (c ∷ []) ∙ taken

lone_byte : (c : ℕ) → (c == 10) ≡ false → ended (c ∷ []) ≡ c ∷ 10 ∷ []
lone_byte c is = let taken : (if c == 10 then c ∷ [] else c ∷ 10 ∷ []) ≡ c ∷ 10 ∷ [] = rw is refl in ended_by (c ∷ []) ∙ taken

lines_of_ended : (xs : List ℕ) → raw_lines (ended xs) ≡ map ended (raw_lines xs)
unfolding raw_lines
lines_of_ended [] = refl
lines_of_ended (c ∷ []) = ap raw_lines (ended_by (c ∷ [])) ∙ by (c == 10) refl ∙ sym (ap (map ended) one)
  where
    one : raw_lines (c ∷ []) ≡ (c ∷ []) ∷ []
    one = each (c == 10)
      where
        each : (b : Bool) → (if b then (c ∷ []) ∷ [] else onto_first c []) ≡ (c ∷ []) ∷ []
        each true = refl
        each false = refl

    by : (b : Bool) → (c == 10) ≡ b → raw_lines (if b then c ∷ [] else c ∷ 10 ∷ []) ≡ ended (c ∷ []) ∷ []
    by true is = one ∙ ap (λ l. l ∷ []) (sym (lone_end c is))
    by false is =
        let two : (if c == 10 then (c ∷ []) ∷ (10 ∷ []) ∷ [] else (c ∷ 10 ∷ []) ∷ []) ≡ (c ∷ 10 ∷ []) ∷ [] = rw is refl in two ∙ ap (λ l. l ∷ []) (sym (lone_byte c is))
lines_of_ended (c ∷ d ∷ ds) = ap raw_lines (ended_step c d ds) ∙ by (c == 10) refl (first_line_is d ds) (lines_of_ended (d ∷ ds))
  where
    by : (b : Bool) → (c == 10) ≡ b → (l : List ℕ) × (ls : List (List ℕ)) × (raw_lines (d ∷ ds) ≡ (d ∷ l) ∷ ls) → raw_lines (ended (d ∷ ds)) ≡ map ended (raw_lines (d ∷ ds))
        → (if b then (c ∷ []) ∷ raw_lines (ended (d ∷ ds)) else onto_first c (raw_lines (ended (d ∷ ds))))
        ≡ map ended (if b then (c ∷ []) ∷ raw_lines (d ∷ ds) else onto_first c (raw_lines (d ∷ ds)))
    by true is some more = ap₂ (λ l ls. l ∷ ls) (sym (lone_end c is)) more
    by false is (l, ls, first) more = ap (onto_first c) (more ∙ ap (map ended) first) ∙ ap (λ line. line ∷ map ended ls) (sym (ended_step c d l)) ∙ sym (ap (λ lines. map ended (onto_first c lines)) first)

-- by the first line, whose end counts
pub ended_first : (wanted : List ℕ) (c : ℕ) (cs : List ℕ)
    → has_line wanted (ended (c ∷ cs)) ≡ (same_text (line_text (ended (take (line_size (c ∷ cs)) (c ∷ cs)))) wanted || has_line wanted (ended (drop (line_size (c ∷ cs)) (c ∷ cs))))
ended_first wanted c cs =
    let after = drop (line_size (c ∷ cs)) (c ∷ cs) in
    ap (list_any (is_head wanted)) (lines_of_ended (c ∷ cs) ∙ ap (map ended) (lines_step c cs)) ∙ ap (λ ls. is_head wanted (ended (take (line_size (c ∷ cs)) (c ∷ cs))) || list_any (is_head wanted) ls) (sym (lines_of_ended after))

-- the text of a line that has its LF, and of one whose end counts without it
pub text_with_end : (line : List ℕ) → ends_with_byte 10 line ≡ true → line_text (ended line) ≡ line_text line
text_with_end line is = let whole : ended line ≡ line = rw is (same (length line == 0)) in ap line_text whole
  where
    same : (b : Bool) → (if b || true then line else line ++ 10 ∷ []) ≡ line
    same true = refl
    same false = refl

without_lf : (xs : List ℕ) → take (length (xs ++ 10 ∷ []) - 1) (xs ++ 10 ∷ []) ≡ xs
without_lf xs = let fewer : length (xs ++ 10 ∷ []) - 1 ≡ length xs = omega (arith, length-append xs (10 ∷ [])) in ap (λ n. take n (xs ++ 10 ∷ [])) fewer ∙ take-append_seam xs (10 ∷ [])

pub text_without_end : (line : List ℕ) → ends_with_byte 10 line ≡ false → line_text (ended line) ≡ strip_last 13 line
text_without_end [] is = refl
text_without_end (c ∷ cs) is =
    let whole : ended (c ∷ cs) ≡ (c ∷ cs) ++ 10 ∷ [] = rw (eqb-suc-zero (length cs), is) refl in
    let closed = closed_is ((c ∷ cs) ++ 10 ∷ []) ∙ closed_lf (c ∷ cs) in
    let last : ends_with_byte 10 ((c ∷ cs) ++ 10 ∷ []) ≡ true = rw (eqb-suc-zero (length (cs ++ 10 ∷ []))) at closed in
    ap line_text whole ∙ rw (last, without_lf (c ∷ cs)) refl

-- ---- a head behind a text

-- neither of two
none_first : (a b : Bool) → (a || b) ≡ false → (a ≡ false) × (b ≡ false)
none_first true b is = absurd (cc is)
none_first false b is = (refl, is)

none_of_two : (a b : Bool) → a ≡ false → b ≡ false → (a || b) ≡ false
none_of_two a b one two = rw (one, two) refl

-- the first line that is the head stands behind lines of which none is
find_behind : (head : List ℕ) (ls : List (List ℕ)) (line : List ℕ) (rest : List (List ℕ)) → list_any (is_head head) ls ≡ false → is_head head line ≡ true
    → find_head head (ls ++ line ∷ rest) ≡ Some (concat ls, concat rest)
find_behind head [] line rest none is =
    let here : (if is_head head line then Some ([], concat rest) else with_front line (find_head head rest)) ≡ Some ([], concat rest) = rw is refl in find_step head line rest ∙ here
find_behind head (l ∷ ls) line rest none is =
    let (first, others) = none_first (is_head head l) (list_any (is_head head) ls) none in
    let later = find_behind head ls line rest others is in
    let here : (if is_head head l then Some ([], concat (ls ++ line ∷ rest)) else with_front l (find_head head (ls ++ line ∷ rest))) ≡ Some (l ++ concat ls, concat rest) = rw (first, later) refl in
    find_step head l (ls ++ line ∷ rest) ∙ here

split_behind : (head front line rest : List ℕ) → is_closed front ≡ true → has_line head front ≡ false → is_closed line ≡ true → raw_lines line ≡ line ∷ [] → is_head head line ≡ true
    → split_at_head head (front ++ (line ++ rest)) ≡ Some (front, rest)
unfolding split_at_head
split_behind head front line rest closed none ends one is =
    let lines : raw_lines (front ++ (line ++ rest)) ≡ raw_lines front ++ line ∷ raw_lines rest =
    lines_of_both front (line ++ rest) closed ∙ ap (λ ls. raw_lines front ++ ls) (lines_of_both line rest ends ∙ ap (λ ls. ls ++ raw_lines rest) one) in
    ap (find_head head) lines ∙ find_behind head (raw_lines front) line (raw_lines rest) none is ∙ rw (joined_lines front, joined_lines rest) refl

-- ---- the rows of further files

-- a mark stands in the first line
marked : (rest : List ℕ) → drop (line_size rest) rest ≡ drop (line_size (0xEF ∷ 0xBB ∷ 0xBF ∷ rest)) (0xEF ∷ 0xBB ∷ 0xBF ∷ rest)
unfolding line_size
marked rest = rw (add-one (line_size rest + 1 + 1), add-one (line_size rest + 1), add-one (line_size rest)) refl

behind_is : (text : List ℕ) → behind_first text ≡ drop (line_size text) text
behind_is text = by (starts_with ◌==◌ text (0xEF ∷ 0xBB ∷ 0xBF ∷ [])) refl
  where
    by : (b : Bool) → starts_with ◌==◌ text (0xEF ∷ 0xBB ∷ 0xBF ∷ []) ≡ b
        → drop (line_size (if b then drop 3 text else text)) (if b then drop 3 text else text) ≡ drop (line_size text) text
    by true is =
        let front : (0xEF ∷ 0xBB ∷ 0xBF ∷ []) ≡ take 3 text = (bytes_eq-Decides (0xEF ∷ 0xBB ∷ 0xBF ∷ []) (take 3 text)).0 is in
        let whole : text ≡ 0xEF ∷ 0xBB ∷ 0xBF ∷ drop 3 text = sym (take-append-drop 3 text) ∙ ap (λ l. l ++ drop 3 text) (sym front) in
        marked (drop 3 text) ∙ sym (ap (λ t. drop (line_size t) t) whole)
    by false is = refl

none_behind : (wanted file : List ℕ) → has_line wanted (ended file) ≡ false → has_line wanted (ended (behind_first file)) ≡ false
unfolding line_size
none_behind wanted [] none = none
none_behind wanted (c ∷ cs) none = ap (λ t. has_line wanted (ended t)) (behind_is (c ∷ cs)) ∙ (none_first _ _ (sym (ended_first wanted c cs) ∙ none)).1

has_in_both : (wanted a b : List ℕ) → is_closed a ≡ true → has_line wanted (a ++ b) ≡ (has_line wanted a || has_line wanted b)
has_in_both wanted a b closed = ap (list_any (is_head wanted)) (lines_of_both a b closed) ∙ list_any-append (is_head wanted) (raw_lines a) (raw_lines b)

-- none of these files has the line
abbrev is_in : List ℕ → List ℕ → Bool
is_in wanted file = has_line wanted (ended file)

abbrev further_rows : List (List ℕ) → List ℕ
further_rows files = flat_map (λ further. ended (behind_first further)) files

closed_further : (files : List (List ℕ)) → is_closed (further_rows files) ≡ true
closed_further [] = refl
closed_further (f ∷ fs) = closed_both (ended (behind_first f)) (further_rows fs) (closed_ended (behind_first f)) (closed_further fs)

none_further : (wanted : List ℕ) (files : List (List ℕ)) → list_any (is_in wanted) files ≡ false → has_line wanted (further_rows files) ≡ false
unfolding raw_lines
none_further wanted [] none = refl
none_further wanted (f ∷ fs) none =
    let (first, others) = none_first (is_in wanted f) (list_any (is_in wanted) fs) none in
    let both = has_in_both wanted (ended (behind_first f)) (further_rows fs) (closed_ended (behind_first f)) in
    both ∙ none_of_two _ _ (none_behind wanted f first) (none_further wanted fs others)

closed_rows : (files : List (List ℕ)) → is_closed (rows_of_all files) ≡ true
closed_rows [] = refl
closed_rows (f ∷ fs) = closed_both (ended f) (further_rows fs) (closed_ended f) (closed_further fs)

none_in_rows : (wanted : List ℕ) (files : List (List ℕ)) → list_any (is_in wanted) files ≡ false → has_line wanted (rows_of_all files) ≡ false
unfolding raw_lines
none_in_rows wanted [] none = refl
none_in_rows wanted (f ∷ fs) none =
    let (first, others) = none_first (is_in wanted f) (list_any (is_in wanted) fs) none in
    has_in_both wanted (ended f) (further_rows fs) (closed_ended f) ∙ none_of_two _ _ first (none_further wanted fs others)

-- ---- the text

-- where a text is made, nothing speaks against it, and this is the text
made_by : (a b agree : Bool) (made text : List ℕ)
    → (need (not a) fault.Head >> need (not b) fault.Head >> need agree fault.Header >> Ok made) ≡ Ok text → (a ≡ false) × (b ≡ false) × (made ≡ text)
made_by true b agree made text is = absurd (cc is)
made_by false true agree made text is = absurd (cc is)
made_by false false false made text is = absurd (cc is)
made_by false false true made text is = (refl, refl, cc is)

-- six texts one after another
six : (a b c d e f : List ℕ) → a ++ b ++ c ++ d ++ e ++ f ≡ a ++ (b ++ (c ++ (d ++ (e ++ f))))
six a b c d e f =
    append_assoc (((a ++ b) ++ c) ++ d) e f ∙ append_assoc ((a ++ b) ++ c) d (e ++ f) ∙ append_assoc (a ++ b) c (d ++ (e ++ f)) ∙ append_assoc a b (c ++ (d ++ (e ++ f)))

sections_made : (openings trades script : List ℕ) → is_closed openings ≡ true → has_line (codes "[trades]") openings ≡ false → is_closed trades ≡ true → has_line (codes "[script]") trades ≡ false
    → sections (codes "[openings]\n" ++ openings ++ codes "[trades]\n" ++ trades ++ codes "[script]\n" ++ script) ≡ Some (openings, trades, script)
unfolding raw_lines
sections_made openings trades script closed none closed' none' =
    let behind_script = trades ++ (codes "[script]\n" ++ script) in
    let behind_trades = openings ++ (codes "[trades]\n" ++ behind_script) in
    let third = split_behind (codes "[script]") trades (codes "[script]\n") script closed' none' refl refl refl in
    let second = split_behind (codes "[trades]") openings (codes "[trades]\n") behind_script closed none refl refl refl in
    let first : split_at_head (codes "[openings]") (codes "[openings]\n" ++ behind_trades) ≡ Some ([], behind_trades) =
    split_behind (codes "[openings]") [] (codes "[openings]\n") behind_trades refl refl refl refl refl in
    let parts : sections (codes "[openings]\n" ++ behind_trades) ≡ Some (openings, trades, script) = rw (first, second, third) refl in
    ap sections (six (codes "[openings]\n") openings (codes "[trades]\n") trades (codes "[script]\n") script) ∙ parts

pub sections_of_files : (openings : List ℕ) (trades : List (List ℕ)) (script text : List ℕ) → text_of_files openings trades script ≡ Ok text
    → sections text ≡ Some (ended openings, rows_of_all trades, script)
sections_of_files openings trades script text made =
    let parts = made_by _ _ _ _ text made in
    ap sections (sym parts.2) ∙ sections_made (ended openings) (rows_of_all trades) script (closed_ended openings) parts.0 (closed_rows trades) (none_in_rows (codes "[script]") trades parts.1)

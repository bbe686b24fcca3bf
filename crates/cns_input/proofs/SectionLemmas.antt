-- Lines of a text, one after another.
use Rattle.std.proofs.Common.{◌≡◌, ◌<◌, ◌≤◌, ◌+◌, ◌-◌, ℕ, zero, suc, List, [], ◌∷◌, ◌++◌, length, take, drop, Option, Some, None, Bool, true, false, refl, sym, ap, ◌∙◌, subst, arith, append_assoc, length-append, take-add, add-one}
use Rattle.std.specs.Prelude.{◌==◌, IfSome, codes, if◌then◌else◌, option_and_then, option_map, slice_index}
use Rattle.std.specs.List.{concat, onto_first, position_from}
use Rattle.std.proofs.Math.Seq.{drop-append_seam}
use Rattle.std.proofs.lemmas.List.{append-nil, drop-drop}
use Rattle.std.proofs.lemmas.Option.{IfSome_then}
use Rattle.memchr.specs.Find.{NoneBefore, Nowhere, Passes, is_byte}
use Rattle.cns_trades.specs.Fields.{same_text}
use Rattle.cns_input.specs.Sections.{line_size, line_text, raw_lines, sections, split_at_head}

pub joined_lines : (xs : List ℕ) → concat (raw_lines xs) ≡ xs
unfolding raw_lines
joined_lines [] = refl
joined_lines (c ∷ cs) = by (c == 10) (raw_lines cs) (joined_lines cs)
  where
    by : (b : Bool) (ls : List (List ℕ)) → concat ls ≡ cs → concat (if b then (c ∷ []) ∷ ls else onto_first c ls) ≡ c ∷ cs
    by true ls h = ap (λ l. c ∷ l) h
    by false [] h = ap (λ l. c ∷ l) h
    by false (l ∷ ls) h = ap (λ m. c ∷ m) h

-- no LF stands before a place, nor then in what is behind the first byte
later : (c : ℕ) (cs : List ℕ) (n : ℕ) → Nowhere (Passes (is_byte 10) (c ∷ cs)) 0 (suc n) → Nowhere (Passes (is_byte 10) cs) 0 n
later c cs n none k low high passes = none (suc k) (omega arith) (omega (arith, high)) passes

-- the first line of a text that begins with an LF
pub line_is_empty : (xs : List ℕ) → 0 < length xs → slice_index xs 0 ≡ 10 → line_size xs ≡ 1
unfolding line_size
line_is_empty [] some is = absurd (omega (arith, some))
line_is_empty (c ∷ cs) some is = rw is refl

-- the first line of a text without an LF
pub no_line_ends : (xs : List ℕ) → Nowhere (Passes (is_byte 10) xs) 0 (length xs) → line_size xs ≡ length xs
unfolding line_size
no_line_ends [] none = refl
no_line_ends (c ∷ cs) none = by (c == 10) refl (no_line_ends cs (later c cs (length cs) none))
  where
    by : (b : Bool) → (c == 10) ≡ b → line_size cs ≡ length cs → (if c == 10 then 1 else line_size cs + 1) ≡ suc (length cs)
    by true is more = absurd (none 0 (omega arith) (omega arith) is)
    by false is more = rw (is, more) (omega arith)

-- and of one whose first LF stands at a place
pub line_ends : (xs : List ℕ) (k : ℕ) → NoneBefore (Passes (is_byte 10) xs) 0 (length xs) k × Passes (is_byte 10) xs k → line_size xs ≡ k + 1
unfolding line_size
line_ends [] k found = absurd (omega (arith, found.0.high))
line_ends (c ∷ cs) zero found = rw found.1 refl
line_ends (c ∷ cs) (suc k) found = by (c == 10) refl (line_ends cs k (record { low = omega arith; high = omega (arith, found.0.high); before = later c cs k found.0.before }, found.1))
  where
    by : (b : Bool) → (c == 10) ≡ b → line_size cs ≡ k + 1 → (if c == 10 then 1 else line_size cs + 1) ≡ suc k + 1
    by true is more = absurd (found.0.before 0 (omega arith) (omega arith) is)
    by false is more = rw (is, more) (omega arith)

-- a text that is not empty is its first line and the others
pub lines_step : (c : ℕ) (cs : List ℕ) → raw_lines (c ∷ cs) ≡ take (line_size (c ∷ cs)) (c ∷ cs) ∷ raw_lines (drop (line_size (c ∷ cs)) (c ∷ cs))
unfolding raw_lines line_size
lines_step c [] = by (c == 10)
  where
    by : (b : Bool) → (if b then (c ∷ []) ∷ [] else onto_first c []) ≡ take (if b then 1 else 0 + 1) (c ∷ []) ∷ raw_lines (drop (if b then 1 else 0 + 1) (c ∷ []))
    by true = refl
    by false = refl
lines_step c (d ∷ ds) = by (c == 10) (line_size (d ∷ ds)) (lines_step d ds)
  where
    by : (b : Bool) (n : ℕ) → raw_lines (d ∷ ds) ≡ take n (d ∷ ds) ∷ raw_lines (drop n (d ∷ ds))
        → (if b then (c ∷ []) ∷ raw_lines (d ∷ ds) else onto_first c (raw_lines (d ∷ ds)))
        ≡ take (if b then 1 else n + 1) (c ∷ d ∷ ds) ∷ raw_lines (drop (if b then 1 else n + 1) (c ∷ d ∷ ds))
    by true n h = refl
    by false n h = ap (onto_first c) h ∙ rw (add-one n) refl

-- ---- lines, split at a head

abbrev pub is_head : List ℕ → List ℕ → Bool
is_head head line = same_text (line_text line) head

-- the bytes before a line and after it
abbrev pub parts_at : List (List ℕ) → ℕ → List ℕ × List ℕ
parts_at lines place = (concat (take place lines), concat (drop (place + 1) lines))

abbrev pub find_head : List ℕ → List (List ℕ) → Option (List ℕ × List ℕ)
find_head head lines = option_and_then (λ place. Some (parts_at lines place)) (position_from (is_head head) 0 lines)

-- with more bytes at the front
abbrev pub with_front : List ℕ → Option (List ℕ × List ℕ) → Option (List ℕ × List ℕ)
with_front front found = option_map (λ p. (front ++ p.0, p.1)) found

position_later : {K : Type 0} (t : K → Bool) (i : ℕ) (xs : List K) → position_from t (i + 1) xs ≡ option_map suc (position_from t i xs)
position_later t i [] = refl
position_later t i (x ∷ xs) = by (t x) (position_later t (i + 1) xs)
  where
    by : (b : Bool) → position_from t (i + 1 + 1) xs ≡ option_map suc (position_from t (i + 1) xs)
        → (if b then Some (i + 1) else position_from t (i + 1 + 1) xs) ≡ option_map suc (if b then Some i else position_from t (i + 1) xs)
    by true more = ap Some (add-one i)
    by false more = more

-- by the first line
pub find_step : (head l : List ℕ) (ls : List (List ℕ)) → find_head head (l ∷ ls) ≡ (if is_head head l then Some ([], concat ls) else with_front l (find_head head ls))
find_step head l ls = by (is_head head l) (position_from (is_head head) 0 ls) (position_later (is_head head) 0 ls)
  where
    by : (b : Bool) (o : Option ℕ) → position_from (is_head head) (0 + 1) ls ≡ option_map suc o
        → option_and_then (λ place. Some (parts_at (l ∷ ls) place)) (if b then Some 0 else position_from (is_head head) (0 + 1) ls)
        ≡ (if b then Some ([], concat ls) else with_front l (option_and_then (λ place. Some (parts_at ls place)) o))
    by true o later = refl
    by false None later = rw later refl
    by false (Some place) later = let next : suc place + 1 ≡ suc (place + 1) = omega arith in rw (later, next) refl

pub with_front-twice : (f g : List ℕ) (o : Option (List ℕ × List ℕ)) → with_front f (with_front g o) ≡ with_front (f ++ g) o
with_front-twice f g None = refl
with_front-twice f g (Some p) = ap (λ l. Some (l, p.1)) (sym (append_assoc f g p.0))

-- a text that is not empty, split at a head, by its first line
pub head_step : (head xs : List ℕ) → 0 < length xs → split_at_head head xs
    ≡ (if is_head head (take (line_size xs) xs) then Some ([], drop (line_size xs) xs) else with_front (take (line_size xs) xs) (split_at_head head (drop (line_size xs) xs)))
unfolding split_at_head
head_step head [] pos = absurd (omega (arith, pos))
head_step head (c ∷ cs) pos =
    let n = line_size (c ∷ cs) in
    let lines = ap (find_head head) (lines_step c cs) in
    lines ∙ find_step head (take n (c ∷ cs)) (raw_lines (drop n (c ∷ cs))) ∙ rw (joined_lines (drop n (c ∷ cs))) refl

-- where the line from a place on is the head
pub found : (head text rest line after : List ℕ) (at : ℕ) (all : Option (List ℕ × List ℕ)) → at < length text → rest ≡ drop at text → 0 < length rest
    → line ≡ take (line_size rest) rest → after ≡ drop (line_size rest) rest → is_head head line ≡ true
    → with_front (take at text) (split_at_head head (drop at text)) ≡ all → Some (take at text, after) ≡ all
found head text rest line after at all lt r pos l a h inv =
    let is : is_head head (take (line_size rest) rest) ≡ true = rw (← l) h in
    let step : split_at_head head rest ≡ Some ([], drop (line_size rest) rest) = head_step head rest pos ∙ rw is refl in
    let end : Some ([], drop (line_size rest) rest) ≡ Some ([], after) = ap (λ l. Some ([], l)) (sym a) in
    let here = ap (with_front (take at text)) (sym (ap (split_at_head head) (sym r) ∙ step ∙ end)) ∙ inv in
    ap (λ l. Some (l, after)) (sym (append-nil (take at text))) ∙ here

-- where it is not
pub passed : (head text rest line : List ℕ) (at n : ℕ) (all : Option (List ℕ × List ℕ)) → rest ≡ drop at text → 0 < length rest → n ≡ line_size rest
    → line ≡ take n rest → is_head head line ≡ false
    → with_front (take at text) (split_at_head head (drop at text)) ≡ all → with_front (take (at + n) text) (split_at_head head (drop (at + n) text)) ≡ all
passed head text rest line at n all r pos size l h inv =
    let is : is_head head (take (line_size rest) rest) ≡ false = rw (← size, ← l) h in
    let step : split_at_head head rest ≡ with_front (take n rest) (split_at_head head (drop n rest)) = head_step head rest pos ∙ rw (is, ← size) refl in
    let front : take (at + n) text ≡ take at text ++ take n rest = take-add at n text ∙ rw r refl in
    let back : drop (at + n) text ≡ drop n rest = sym (ap (drop n) r ∙ drop-drop n at text) in
    let twice = sym (with_front-twice (take at text) (take n rest) (split_at_head head (drop n rest))) in
    let here = ap (with_front (take at text)) (sym (ap (split_at_head head) (sym r) ∙ step)) ∙ inv in
    rw (front, back) (twice ∙ here)

-- ---- where the script stands

-- a text ends with another
abbrev EndsWith : List ℕ → List ℕ → Type 0
EndsWith text last = (front : List ℕ) × (text ≡ front ++ last)

ends_within : (text rest last : List ℕ) → EndsWith text rest → EndsWith rest last → EndsWith text last
ends_within text rest last (front, is) (more, at) = (front ++ more, is ∙ ap (λ l. front ++ l) at ∙ sym (append_assoc front more last))

-- what is behind a head is the last part of the lines
lines_end : (head : List ℕ) (lines : List (List ℕ)) → IfSome (find_head head lines) (λ p. EndsWith (concat lines) p.1)
lines_end head [] = tt
lines_end head (l ∷ ls) = subst (λ o. IfSome o (λ p. EndsWith (l ++ concat ls) p.1)) (sym (find_step head l ls)) (by (is_head head l) (find_head head ls) (lines_end head ls))
  where
    by : (b : Bool) (split : Option (List ℕ × List ℕ)) → IfSome split (λ p. EndsWith (concat ls) p.1)
        → IfSome (if b then Some ([], concat ls) else with_front l split) (λ p. EndsWith (l ++ concat ls) p.1)
    by true split ends = (l, refl)
    by false None ends = tt
    by false (Some p) ends = ends_within (l ++ concat ls) (concat ls) p.1 (l, refl) ends

-- and of a text
head_ends : (head text : List ℕ) → IfSome (split_at_head head text) (λ p. EndsWith text p.1)
unfolding split_at_head
head_ends head text = subst (λ t. IfSome (split_at_head head text) (λ p. EndsWith t p.1)) (joined_lines text) (lines_end head (raw_lines text))

head_ends_where : (b : Bool) (head text : List ℕ) → IfSome (if b then split_at_head head text else None) (λ p. EndsWith text p.1)
head_ends_where true head text = head_ends head text
head_ends_where false head text = tt

-- and of one in which it was found in steps
step_ends : {R : Type 0} (text : List ℕ) (o : Option (List ℕ × List ℕ)) (next : List ℕ × List ℕ → Option R) (last : R → List ℕ) → IfSome o (λ p. EndsWith text p.1)
    → ((p : List ℕ × List ℕ) → IfSome (next p) (λ r. EndsWith p.1 (last r))) → IfSome (option_and_then next o) (λ r. EndsWith text (last r))
step_ends text None next last ends more = tt
step_ends text (Some p) next last ends more = IfSome_then (next p) (more p) (λ r at. ends_within text p.1 (last r) ends at)

sections_end : (text : List ℕ) → IfSome (sections text) (λ parts. EndsWith text parts.2)
sections_end text =
    step_ends text _ _ (λ parts. parts.2) (head_ends (codes "[openings]") text) (λ p.
    step_ends p.1 _ _ (λ parts. parts.2) (head_ends_where (length p.0 == 0) (codes "[trades]") p.1) (λ q.
    step_ends q.1 _ _ (λ parts. parts.2) (head_ends (codes "[script]") q.1) (λ r. ([], refl))))

-- the script is the last part of a text
pub script_is_last : (text openings trades script : List ℕ) → sections text ≡ Some (openings, trades, script)
    → (length script ≤ length text) × (script ≡ drop (length text - length script) text)
script_is_last text openings trades script is =
    let ends : EndsWith text script = subst (λ o. IfSome o (λ p. EndsWith text p.2)) is (sections_end text) in
    let size : length text ≡ length ends.0 + length script = ap length ends.1 ∙ length-append ends.0 script in
    let start : length text - length script ≡ length ends.0 = omega arith in
    (omega arith, rw start (sym (drop-append_seam ends.0 script) ∙ ap (drop (length ends.0)) (sym ends.1)))

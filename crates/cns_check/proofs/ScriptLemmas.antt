-- The lines of a script, one after another.
use Rattle.std.proofs.Common.{◌≡◌, ◌<◌, ◌≤◌, ◌+◌, ◌-◌, ℕ, zero, suc, List, [], ◌∷◌, ◌++◌, length, take, drop, Bool, true, false, refl, sym, ap, ◌∙◌, append_assoc, arith, rules, tests}
use Rattle.std.specs.Prelude.{◌==◌, if◌then◌else◌, map, nat_lt}
use Rattle.std.proofs.lemmas.Bool.{eqb-true}
use Rattle.std.proofs.lemmas.List.{append-nil, map-append}
use Rattle.cns_input.specs.Script.{command_of}
use Rattle.cns_input.specs.Sections.{line_size, line_text, raw_lines}
use Rattle.cns_input.specs.declared.command.Command.{Command}
use Rattle.cns_input.specs.declared.command.Command.TheVariants as command
use Rattle.cns_input.proofs.SectionLemmas.{lines_step}
use Rattle.cns_check.specs.Findings.{bad_lines, commands_from}
use Rattle.cns_check.specs.declared.finding.Finding.{Finding}
use Rattle.cns_check.specs.declared.finding.Finding.TheVariants as finding

-- ---- a line, and those behind it

pub skipped : (beside n : ℕ) (c : Command) (rest : List (ℕ × Command)) → c ≡ command.Skip → bad_lines beside ((n, c) ∷ rest) ≡ bad_lines beside rest
unfolding bad_lines
skipped zero n c rest is = rw is refl
skipped (suc beside) n c rest is = rw is refl

pub no_command : (beside left n : ℕ) (c : Command) (rest : List (ℕ × Command)) → c ≡ command.Bad → left ≡ beside - 1 → bad_lines beside ((n, c) ∷ rest) ≡ n ∷ bad_lines left rest
unfolding bad_lines
no_command zero left n c rest is l = rw (is, l) refl
no_command (suc beside) left n c rest is l = rw (is, l) refl

-- lines that run beside a lot, where none does, and where some do
pub begun : (beside n issue lines : ℕ) (c : Command) (rest : List (ℕ × Command)) → c ≡ command.Beside issue lines → beside ≤ 0
    → bad_lines beside ((n, c) ∷ rest) ≡ (if nat_lt 0 beside then n ∷ [] else []) ++ bad_lines lines rest
unfolding bad_lines
begun zero n issue lines c rest is none = rw is refl
begun (suc beside) n issue lines c rest is none = absurd (omega (arith, none))

pub begun_again : (beside left n issue lines : ℕ) (c : Command) (rest : List (ℕ × Command)) → c ≡ command.Beside issue lines → 0 < beside → left ≡ beside - 1
    → bad_lines beside ((n, c) ∷ rest) ≡ (if nat_lt 0 beside then n ∷ [] else []) ++ bad_lines left rest
unfolding bad_lines
begun_again zero left n issue lines c rest is some l = absurd (omega (arith, some))
begun_again (suc beside) left n issue lines c rest is some l =
    let same : left ≡ beside = omega (arith, l) in
    let more : nat_lt 0 (suc beside) ≡ true = search (rules, tests) in
    rw (is, same, more) refl

pub runs : (beside left n : ℕ) (c : Command) (rest : List (ℕ × Command)) → (c ≡ command.Skip → ⊥) → (c ≡ command.Bad → ⊥) → ((issue lines : ℕ) → c ≡ command.Beside issue lines → ⊥)
    → left ≡ beside - 1 → bad_lines beside ((n, c) ∷ rest) ≡ bad_lines left rest
unfolding bad_lines
runs beside left n command.Skip rest a b d l = absurd (a refl)
runs beside left n command.Bad rest a b d l = absurd (b refl)
runs beside left n (command.Beside issue lines) rest a b d l = absurd (d issue lines refl)
runs zero left n _ rest a b d l = rw l refl
runs (suc beside) left n _ rest a b d l = rw l refl

pub nothing_bad : (beside : ℕ) → bad_lines beside [] ≡ []
unfolding bad_lines
nothing_bad zero = refl
nothing_bad (suc beside) = refl

-- ---- the lines of a text

pub some_left : (xs : List ℕ) (empty : Bool) → empty ≡ (length xs == 0) → empty ≡ false → 0 < length xs
some_left [] empty is some = absurd (cc (sym is ∙ some))
some_left (x ∷ xs) empty is some = omega arith

-- of one that is not empty, by the first
pub first_line : (n size : ℕ) (xs line after : List ℕ) (empty : Bool) → empty ≡ (length xs == 0) → empty ≡ false → size ≡ line_size xs → line ≡ take size xs → after ≡ drop size xs
    → commands_from n (raw_lines xs) ≡ (n, command_of (line_text line)) ∷ commands_from (n + 1) (raw_lines after)
first_line n size [] line after empty is some s l a = absurd (cc (sym is ∙ some))
first_line n size (c ∷ cs) line after empty is some s l a = ap (commands_from n) (lines_step c cs) ∙ rw (l, a, s) refl

-- of one that is
pub no_lines : (n : ℕ) (xs : List ℕ) (empty : Bool) → empty ≡ (length xs == 0) → empty ≡ true → commands_from n (raw_lines xs) ≡ []
unfolding raw_lines
no_lines n [] empty is none = refl
no_lines n (c ∷ cs) empty is none = absurd (omega (arith, eqb-true (length (c ∷ cs)) 0 (sym is ∙ none)))

-- ---- the bad lines so far

-- a line's number, where it is bad
abbrev pub if_bad : Bool → ℕ → List ℕ
if_bad bad n = if bad then n ∷ [] else []

pub one_more_line : (before more later now all : List ℕ) → before ++ now ≡ all → now ≡ more ++ later → (before ++ more) ++ later ≡ all
one_more_line before more later now all so step = append_assoc before more later ∙ ap (λ xs. before ++ xs) (sym step) ∙ so

pub found_of_line : (bad : Bool) (n : ℕ) (found : List Finding) (before : List ℕ)
    → (found ++ map finding.Line before) ++ (if bad then finding.Line n ∷ [] else []) ≡ found ++ map finding.Line (before ++ if_bad bad n)
found_of_line true n found before = append_assoc found (map finding.Line before) (finding.Line n ∷ []) ∙ ap (λ xs. found ++ xs) (sym (map-append finding.Line before (n ∷ [])))
found_of_line false n found before = append-nil (found ++ map finding.Line before) ∙ ap (λ xs. found ++ map finding.Line xs) (sym (append-nil before))

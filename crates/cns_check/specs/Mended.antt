-- A text whose heads are mended, so that what is wrong behind a head that is misspelt is found too (this project's own rule).
use Rattle.std.specs.Prelude.{ℕ, ◌==◌, ◌||◌, not, bytes_eq, Bool, List, [], ◌∷◌, map, codes, filter, flat_map, if◌then◌else◌}
use Rattle.std.specs.Char.{to_ascii_lowercase}
use Rattle.std.specs.List.{list_any}
use Rattle.cns_input.specs.Sections.{raw_lines}
use Rattle.cns_check.specs.declared.finding.Head.{Head}
use Rattle.cns_check.specs.declared.finding.Head.TheVariants as head

-- what may stand in a line beside the name of a head: blanks, quotes, brackets, a colon, the end of a line, and the bytes of UTF-8's byte order mark
abbrev pub is_beside : ℕ → Bool
is_beside c = list_any (λ b. c == b) (9 ∷ 10 ∷ 13 ∷ 32 ∷ 34 ∷ 40 ∷ 41 ∷ 58 ∷ 91 ∷ 93 ∷ 123 ∷ 125 ∷ 187 ∷ 191 ∷ 239 ∷ [])

-- the other bytes of a line, its letters as small ones
abbrev pub letters_of : List ℕ → List ℕ
letters_of line = map to_ascii_lowercase (filter (λ c. not (is_beside c)) line)

-- whether a line is the name of a head, in whatever case, of one or of several
abbrev pub is_head_name : Head → List ℕ → Bool
is_head_name head.Openings line = bytes_eq (letters_of line) (codes "openings") || bytes_eq (letters_of line) (codes "opening")
is_head_name head.Trades line = bytes_eq (letters_of line) (codes "trades") || bytes_eq (letters_of line) (codes "trade")
is_head_name head.Script line = bytes_eq (letters_of line) (codes "script") || bytes_eq (letters_of line) (codes "scripts")

-- a line, or the head that it names
abbrev pub mended_line : List ℕ → List ℕ
mended_line line =
    if is_head_name head.Openings line then codes "[openings]\n"
    else if is_head_name head.Trades line then codes "[trades]\n"
    else if is_head_name head.Script line then codes "[script]\n"
    else line

-- a text in which each line that names a head is that head: as many lines, in the same places
abbrev pub mended : List ℕ → List ℕ
mended text = flat_map mended_line (raw_lines text)

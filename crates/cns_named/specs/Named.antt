-- The text that files of openings, of trades and of a script make (this project's own rule).
use Rattle.std.specs.Prelude.{◌≡◌, ℕ, ◌==◌, ◌||◌, not, Bool, true, List, [], ◌∷◌, ◌++◌, length, take, drop, codes, flat_map, Result, Ok, Err, is_ok, Some, if◌then◌else◌}
use Rattle.std.specs.Io.BufRead.{ends_with_byte}
use Rattle.std.specs.List.{list_any, starts_with}
use Rattle.cns_ids.specs.Steps.{◌>>◌, need}
use Rattle.cns_trades.specs.Fields.{same_text}
use Rattle.cns_input.specs.Sections.{line_size, line_text, raw_lines, sections}
use Rattle.cns_named.specs.declared.named.NamedFault.{NamedFault}
use Rattle.cns_named.specs.declared.named.NamedFault.TheVariants as fault

-- whether some line of a text is this one
abbrev pub has_line : List ℕ → List ℕ → Bool
has_line wanted text = list_any (λ line. same_text (line_text line) wanted) (raw_lines text)

-- a text whose last line has its LF
abbrev pub ended : List ℕ → List ℕ
ended text = if (length text == 0) || ends_with_byte 10 text then text else text ++ 10 ∷ []

-- a text without the byte order mark of UTF-8, where it begins with one
abbrev pub without_mark : List ℕ → List ℕ
without_mark text = if starts_with ◌==◌ text (0xEF ∷ 0xBB ∷ 0xBF ∷ []) then drop 3 text else text

-- the first line of a text, behind a mark, and what stands behind that line
abbrev pub first_line : List ℕ → List ℕ
first_line text = let plain = without_mark text in line_text (take (line_size plain) plain)

abbrev pub behind_first : List ℕ → List ℕ
behind_first text = let plain = without_mark text in drop (line_size plain) plain

-- the rows of files one after another: the first one's with its header, and those of the others without theirs
abbrev pub rows_of_all : List (List ℕ) → List ℕ
rows_of_all [] = []
rows_of_all (file ∷ files) = ended file ++ flat_map (λ further. ended (behind_first further)) files

-- whether a text begins with another line
unfoldable pub begins_otherwise : List ℕ → List ℕ → Bool
begins_otherwise line text = not (same_text (first_line text) line)

-- whether the headers of all files are the first one's
abbrev pub do_headers_agree : List (List ℕ) → Bool
do_headers_agree [] = true
do_headers_agree (file ∷ files) = not (list_any (begins_otherwise (first_line file)) files)

-- the text that files make, or why they make none: three lines are the heads of what stands in the files, of which none has a line, the last one with
-- its LF, that would end its section
abbrev pub text_of_files : List ℕ → List (List ℕ) → List ℕ → Result (List ℕ) NamedFault
text_of_files openings trades script =
    need (not (has_line (codes "[trades]") (ended openings))) fault.Head
    >> need (not (list_any (λ file. has_line (codes "[script]") (ended file)) trades)) fault.Head
    >> need (do_headers_agree trades) fault.Header
    >> Ok (codes "[openings]\n" ++ ended openings ++ codes "[trades]\n" ++ rows_of_all trades ++ codes "[script]\n" ++ script)

-- what a fault says of the files: want of memory is told only of files that make a text
abbrev pub TellsOf : NamedFault → Result (List ℕ) NamedFault → Type 0
TellsOf fault.Head made = made ≡ Err fault.Head
TellsOf fault.Header made = made ≡ Err fault.Header
TellsOf fault.OutOfMemory made = is_ok made ≡ true

-- the sections of the text that files make are what stands in the files, each last line with its LF
abbrev pub SectionsAreOfFiles : Type 0
SectionsAreOfFiles = (openings : List ℕ) (trades : List (List ℕ)) (script text : List ℕ) → text_of_files openings trades script ≡ Ok text
    → sections text ≡ Some (ended openings, rows_of_all trades, script)

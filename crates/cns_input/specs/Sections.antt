-- The parts of an input text.
use Rattle.std.specs.Prelude.{◌≡◌, ℕ, ◌+◌, ◌<◌, ◌==◌, List, [], ◌∷◌, ◌++◌, take, drop, length, slice_index, codes, Option, Some, None, MatchOption, option_map, if◌then◌else◌}
use Rattle.std.specs.List.{concat, onto_first, position_from}
use Rattle.std.specs.Io.BufRead.{ends_with_byte, strip_last}
use Rattle.cns_trades.specs.Fields.{same_text}
use Rattle.cns_words.specs.Words.{◌>>=◌}

-- the lines of a text, each with the LF that ends it; a last one may have none
unfoldable pub raw_lines : List ℕ → List (List ℕ)
raw_lines [] = []
raw_lines (c ∷ cs) = if c == 10 then (c ∷ []) ∷ raw_lines cs else onto_first c (raw_lines cs)

-- how many bytes the first line has
unfoldable pub line_size : List ℕ → ℕ
line_size [] = 0
line_size (c ∷ cs) = if c == 10 then 1 else line_size cs + 1

-- a line without its LF, and without one CR before that
abbrev pub line_text : List ℕ → List ℕ
line_text line = if ends_with_byte 10 line then strip_last 13 (strip_last 10 line) else line

-- the bytes before the first line that is the head, and those after it
unfoldable pub split_at_head : List ℕ → List ℕ → Option (List ℕ × List ℕ)
split_at_head head text = do
  let lines = raw_lines text
  place ← position_from (λ line. same_text (line_text line) head) 0 lines
  Some (concat (take place lines), concat (drop (place + 1) lines))

-- a head begins with a bracket
abbrev pub BeginsWithBracket : List ℕ → Type 0
BeginsWithBracket head = (0 < length head) × (slice_index head 0 ≡ 91)

-- no line of the first n bytes is the head: it is found as in the bytes behind them
abbrev pub IsPassed : List ℕ → List ℕ → ℕ → Type 0
IsPassed head text n = split_at_head head text ≡ option_map (λ p. (take n text ++ p.0, p.1)) (split_at_head head (drop n text))

-- a head stands in the text from this place on, or nowhere
abbrev pub IsNextBracket : List ℕ → Option ℕ → Type 0
IsNextBracket text place =
    (head : List ℕ) → BeginsWithBracket head → MatchOption place (split_at_head head text ≡ None) (λ n. (n < length text) × IsPassed head text n)

-- the bytes of the openings, the trades and the script: the first line is the first head
abbrev pub sections : List ℕ → Option (List ℕ × List ℕ × List ℕ)
sections text = do
  (before, opened) ← split_at_head (codes "[openings]") text
  (openings, traded) ← if length before == 0 then split_at_head (codes "[trades]") opened else None
  (trades, script) ← split_at_head (codes "[script]") traded
  Some (openings, trades, script)

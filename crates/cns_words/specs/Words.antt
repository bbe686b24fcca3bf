-- The lines of a text, and the words of a line (this project's own rule).
use Rattle.std.specs.Prelude.{ℕ, ◌==◌, Bool, List, [], Option, Some, None, option_and_then}
use Rattle.std.specs.List.{slice_split, starts_with}
use denote.Ref.{Bor}

-- a value that is read word by word, in steps, each of which gives one or none (`do` is written with this)
abbrev pub ◌>>=◌ : {A B : Type 0} → Option A → (A → Option B) → Option B
◌>>=◌ o f = option_and_then f o

-- the end of a line
abbrev pub is_lf : ℕ → Bool
is_lf c = c == 10

abbrev pub begins_with : List ℕ → List ℕ → Bool
begins_with = starts_with ◌==◌

-- the pieces between single spaces, some of them empty where spaces stand together or at an end
unfoldable pub line_words : List ℕ → List (List ℕ)
line_words line = slice_split (λ c. c == 32) line

-- the words behind another one, by the bytes behind its space where there is one
abbrev pub words_behind : Option (Bor (List ℕ)) → List (List ℕ)
words_behind None = []
words_behind (Some rest) = line_words rest.now

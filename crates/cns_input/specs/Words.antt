-- What the words of a line stand for.
use Rattle.std.specs.Prelude.{ℕ, List, Option, codes}
use Rattle.std.specs.Map.{lookup}
use Prim.Native.String.{String}
use Rattle.cns_trades.specs.Fields.{same_text}

-- what a word stands for in a table
abbrev pub word_in : {A : Type 0} → List (String × A) → List ℕ → Option A
word_in table text = lookup (λ word. same_text text (codes word)) table

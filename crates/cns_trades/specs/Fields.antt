-- The headers of the two kinds of rows.
use Rattle.std.specs.Prelude.{ℕ, ◌==◌, Bool, List, [], ◌∷◌, map, codes}
use Rattle.std.specs.Cmp.Lexicographic.{pointwise}

abbrev pub same_text : List ℕ → List ℕ → Bool
same_text = pointwise ◌==◌

abbrev pub is_trade_header : List (List ℕ) → Bool
is_trade_header fs = pointwise same_text fs (map codes ("trade" ∷ "settle" ∷ "buyer" ∷ "seller" ∷ "cusip" ∷ "quantity" ∷ []))

abbrev pub is_opening_header : List (List ℕ) → Bool
is_opening_header fs = pointwise same_text fs (map codes ("account" ∷ "cusip" ∷ "shares" ∷ []))

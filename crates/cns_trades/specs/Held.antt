-- Rows as they are held: of each row the fault that it has, if any, and beside them the trades of those without one.
use Rattle.std.specs.Prelude.{⊤, ℕ, ◌+◌, List, [], ◌∷◌, Option, Some, None}
use Rattle.cns_trades.specs.declared.fault.RowFault.{RowFault}
use Rattle.cns_trades.specs.declared.trade.Trade.{Trade}
use Rattle.cns_trades.specs.declared.row.Row.{Row}
use Rattle.cns_trades.specs.declared.row.Row.TheVariants as row

-- the rows that these faults and trades stand for, numbered from n on
unfoldable pub rows_held : ℕ → List (Option RowFault) → List Trade → List Row
rows_held n [] ts = []
rows_held n (Some e ∷ es) ts = row.Fault n e ∷ rows_held (n + 1) es ts
rows_held n (None ∷ es) [] = []
rows_held n (None ∷ es) (t ∷ ts) = row.Trade t ∷ rows_held (n + 1) es ts

-- there is a trade for each row without a fault, and no other
unfoldable pub Fit : List (Option RowFault) → List Trade → Type 0
Fit [] [] = ⊤
Fit [] (t ∷ ts) = ⊥
Fit (Some e ∷ es) ts = Fit es ts
Fit (None ∷ es) [] = ⊥
Fit (None ∷ es) (t ∷ ts) = Fit es ts

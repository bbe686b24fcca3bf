-- Due trades and positions, over the records (this project's own rules). Records stand newest first.
use Rattle.std.specs.Prelude.{ℕ, ◌+◌, nat_le, Bool, false, ℤ, pos, neg_ℤ, ◌+ℤ◌, ◌-ℤ◌, ◌≤ℤ◌, List, [], ◌∷◌, if◌then◌else◌}
use Rattle.std.specs.List.{list_any}
use Rattle.cns_trades.specs.declared.trade.Trade.{Trade}
use Rattle.cns_netting.specs.History.{bought, sold}
use Rattle.cns_movements.specs.Order.{moved_sum, open_sum}
use Rattle.cns_movements.specs.declared.order.MoveKind.TheVariants.{Cover, Delivery}
use Rattle.cns_records.specs.declared.clear_record.ClearRecord.{ClearRecord}
use Rattle.cns_records.specs.declared.clear_record.ClearRecord.TheVariants.{Accept, Cycle}
use Rattle.cns_clearing.specs.Books.{order_book_of, confirmed_of}

-- whether a record is a cycle of this date or of a later one
abbrev pub is_cycle_from : ℕ → ClearRecord → Bool
is_cycle_from day (Cycle id) = nat_le day id.day
is_cycle_from day _ = false

-- the due trades of records after which these others were recorded: the accepted ones after which a cycle of their settlement
-- date or of a later one was recorded
abbrev pub due_before : List ClearRecord → List ClearRecord → List Trade
due_before later [] = []
due_before later (Accept t ∷ c) =
    if list_any (is_cycle_from t.settle) later then t ∷ due_before (Accept t ∷ later) c else due_before (Accept t ∷ later) c
due_before later (r ∷ c) = due_before (r ∷ later) c

-- the due trades
abbrev pub due_in : List ClearRecord → List Trade
due_in c = due_before [] c

-- the shares that stand for a member in an issue: bought by due trades, and moved by its confirmed covers
abbrev pub credit_in : List ClearRecord → ℕ → ℕ → ℕ
credit_in c member issue = bought (due_in c) member issue + moved_sum (order_book_of c).orders (confirmed_of c) Cover member issue

-- the shares that stand against it: sold by due trades, and moved by its confirmed deliveries
abbrev pub debit_in : List ClearRecord → ℕ → ℕ → ℕ
debit_in c member issue = sold (due_in c) member issue + moved_sum (order_book_of c).orders (confirmed_of c) Delivery member issue

-- a member's position in an issue
abbrev pub position_in : List ClearRecord → ℕ → ℕ → ℤ
position_in c member issue = pos (credit_in c member issue) -ℤ pos (debit_in c member issue)

-- with all that is ordered moved, a position goes no lower than what the member sold in due trades, and no higher than what it
-- bought
pub record IsBetween (c : List ClearRecord) (member issue : ℕ) (position : ℤ) : Type 0 where
  pub low : neg_ℤ (pos (sold (due_in c) member issue)) ≤ℤ (position -ℤ pos (open_sum (order_book_of c).orders (confirmed_of c) Delivery member issue))
  pub high : (position +ℤ pos (open_sum (order_book_of c).orders (confirmed_of c) Cover member issue)) ≤ℤ pos (bought (due_in c) member issue)

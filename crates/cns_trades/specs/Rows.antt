-- The rows of a text of trades.
use Rattle.std.specs.Prelude.{ℕ, not, ◌==◌, List, [], length, get_or, Option, Result, Ok, Err, if◌then◌else◌}
use Rattle.std.specs.Result.{result_map_both}
use Rattle.cns_ids.specs.Cusip.{read_cusip}
use Rattle.cns_ids.specs.ReadDay.{read_day}
use Rattle.cns_ids.specs.Number.{number_in}
use Rattle.cns_ids.specs.Steps.{◌>>=◌}
use Rattle.cns_trades.specs.ReadId.{read_id}
use Rattle.cns_trades.specs.Fields.{is_trade_header}
use Rattle.cns_trades.specs.Records.{Fields, rows_of}
use Rattle.cns_trades.specs.declared.fault.RowFault.{RowFault}
use Rattle.cns_trades.specs.declared.fault.RowFault.TheVariants as fault
use Rattle.cns_trades.specs.declared.trade.Trade.{Trade}
use Rattle.cns_trades.specs.declared.row.Row.{Row}
use Rattle.cns_trades.specs.declared.row.Row.TheVariants as row

-- a field's fault as the row's
abbrev pub told : {A E : Type 0} → (E → RowFault) → Result A E → Result A RowFault
told f = result_map_both (λ x. x) f

-- the trade that six fields are, or their first fault
unfoldable pub trade_of : Fields → Result Trade RowFault
trade_of fs = if not (length fs == 6) then Err fault.Fields else do
  id ← told (λ _. fault.Id) (read_id (get_or fs 0 []))
  settle ← told (λ _. fault.Settle) (read_day (get_or fs 1 []))
  buyer ← told fault.Buyer (number_in 1 9999 (get_or fs 2 []))
  seller ← told fault.Seller (number_in 1 9999 (get_or fs 3 []))
  issue ← told fault.Cusip (read_cusip (get_or fs 4 []))
  quantity ← told fault.Quantity (number_in 1 999999999999 (get_or fs 5 []))
  Ok (record { id = id; settle = settle; buyer = buyer; seller = seller; issue = issue; quantity = quantity })

-- a row: its trade, or its number and its first fault
abbrev pub row_at : ℕ → Fields → Row
row_at n fs = elim (trade_of fs) [ Ok t ↦ row.Trade t | Err e ↦ row.Fault n e ]

-- the rows of a text of trades; None where its first record is not the header
abbrev pub trade_rows : List ℕ → Option (List Row)
trade_rows text = rows_of is_trade_header row_at text

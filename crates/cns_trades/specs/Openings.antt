-- The rows of a text of openings.
use Rattle.std.specs.Prelude.{ℕ, ◌^◌, not, ◌==◌, List, [], length, get_or, Option, Result, Ok, Err, if◌then◌else◌}
use Rattle.cns_ids.specs.Cusip.{read_cusip}
use Rattle.cns_ids.specs.Number.{number_in}
use Rattle.cns_trades.specs.Fields.{is_opening_header}
use Rattle.cns_trades.specs.Records.{Fields, rows_of}
use Rattle.cns_trades.specs.Rows.{told}
use Rattle.cns_ids.specs.Steps.{◌>>=◌}
use Rattle.cns_trades.specs.declared.fault.RowFault.{RowFault}
use Rattle.cns_trades.specs.declared.fault.RowFault.TheVariants as fault
use Rattle.cns_trades.specs.declared.opening.Opening.{Opening}
use Rattle.cns_trades.specs.declared.opening.OpeningRow.{OpeningRow}
use Rattle.cns_trades.specs.declared.opening.OpeningRow.TheVariants as row

-- the opening that three fields are, or their first fault
unfoldable pub opening_of : Fields → Result Opening RowFault
opening_of fs = if not (length fs == 3) then Err fault.Fields else do
  member ← told fault.Account (number_in 1 9999 (get_or fs 0 []))
  issue ← told fault.Cusip (read_cusip (get_or fs 1 []))
  shares ← told fault.Shares (number_in 0 (10 ^ 18) (get_or fs 2 []))
  Ok (record { member = member; issue = issue; shares = shares })

-- a row: its opening, or its number and its first fault
abbrev pub opening_row_at : ℕ → Fields → OpeningRow
opening_row_at n fs = elim (opening_of fs) [ Ok o ↦ row.Opening o | Err e ↦ row.Fault n e ]

-- the rows of a text of openings; None where its first record is not the header
abbrev pub opening_rows : List ℕ → Option (List OpeningRow)
opening_rows text = rows_of is_opening_header opening_row_at text

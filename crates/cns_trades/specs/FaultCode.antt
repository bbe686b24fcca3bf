-- A row's fault in one byte. Two kinds of fault tell a small number, of a place or of a digit; each other fault is one code.
use Rattle.std.specs.Prelude.{⊤, ℕ, ◌-◌, ◌<◌, ◌==◌, nat_lt, Option, Some, None, if◌then◌else◌}
use Rattle.cns_ids.specs.declared.cusip.CusipFault.TheVariants as cusip
use Rattle.cns_ids.specs.declared.number.ReadFault.TheVariants as read
use Rattle.cns_trades.specs.declared.fault.RowFault.{RowFault}
use Rattle.cns_trades.specs.declared.fault.RowFault.TheVariants as fault

-- the number that a fault tells, if any, is of one digit
abbrev pub IsSmall : RowFault → Type 0
IsSmall (fault.Cusip (cusip.BadChar place)) = place < 10
IsSmall (fault.Cusip (cusip.CheckDigit want)) = want < 10
IsSmall _ = ⊤

-- the fault that a code stands for, if any
unfoldable pub fault_of : ℕ → Option RowFault
fault_of c =
    if c == 0 then None
    else if c == 1 then Some fault.Fields
    else if c == 2 then Some fault.Id
    else if c == 3 then Some fault.Settle
    else if c == 4 then Some (fault.Buyer read.BadNumber)
    else if c == 5 then Some (fault.Buyer read.OutOfRange)
    else if c == 6 then Some (fault.Seller read.BadNumber)
    else if c == 7 then Some (fault.Seller read.OutOfRange)
    else if c == 8 then Some (fault.Quantity read.BadNumber)
    else if c == 9 then Some (fault.Quantity read.OutOfRange)
    else if c == 10 then Some (fault.Account read.BadNumber)
    else if c == 11 then Some (fault.Account read.OutOfRange)
    else if c == 12 then Some (fault.Shares read.BadNumber)
    else if c == 13 then Some (fault.Shares read.OutOfRange)
    else if c == 14 then Some (fault.Cusip cusip.Length)
    else if nat_lt c 25 then Some (fault.Cusip (cusip.BadChar (c - 15)))
    else Some (fault.Cusip (cusip.CheckDigit (c - 25)))

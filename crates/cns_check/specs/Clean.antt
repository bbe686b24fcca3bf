-- An input with which nothing is wrong, and the fault of a row that is told first.
use Rattle.std.specs.Prelude.{◌≡◌, ℕ, Bool, true, List, [], ◌∷◌, ◌++◌, Some, None, Result, Ok, Err, is_ok}
use Rattle.cns_trades.specs.Fields.{is_opening_header, is_trade_header}
use Rattle.cns_trades.specs.Openings.{opening_of}
use Rattle.cns_trades.specs.Records.{Fields}
use Rattle.cns_trades.specs.Rows.{trade_of}
use Rattle.cns_trades.specs.declared.fault.RowFault.{RowFault}
use Rattle.cns_trades.specs.declared.opening.Opening.{Opening}
use Rattle.cns_depository.specs.Openings.{opening_fault}
use Rattle.cns_input.specs.Sections.{raw_lines, sections}
use Rattle.cns_check.specs.Findings.{bad_lines, commands_from, records_of}

-- the records of a table are none, or its header and rows of which this holds
abbrev pub IsTable : (Fields → Bool) → (List Fields → Type 0) → List Fields → Type 0
IsTable is_header Are [] = Unit {0}
IsTable is_header Are (r ∷ rs) = (is_header r ≡ true) × Are rs

-- each row is a trade
abbrev pub AreTrades : List Fields → Type 0
AreTrades [] = Unit {0}
AreTrades (r ∷ rs) = (is_ok (trade_of r) ≡ true) × AreTrades rs

-- each row is an opening that stands, behind the openings of the rows before it
abbrev pub AreOpenings : List Opening → List Fields → Type 0
AreOpenings held [] = Unit {0}
AreOpenings held (r ∷ rs) = (o : Opening) × (opening_of r ≡ Ok o) × (opening_fault held o ≡ None) × AreOpenings (held ++ o ∷ []) rs

-- a text that has its sections: two tables, and a script each of whose lines is a command that may stand there, a blank line or a comment
abbrev pub IsClean : List ℕ → Type 0
IsClean text =
    (openings : List ℕ) × (trades : List ℕ) × (script : List ℕ) × (sections text ≡ Some (openings, trades, script))
    × IsTable is_opening_header (AreOpenings []) (records_of openings)
    × IsTable is_trade_header AreTrades (records_of trades)
    × (bad_lines 0 (commands_from 1 (raw_lines script)) ≡ [])

-- the first of a row's faults is the one for which a run refuses the row; a row that a run takes has none
abbrev pub IsFirst : {A : Type 0} → Result A RowFault → List RowFault → Type 0
IsFirst (Ok _) faults = faults ≡ []
IsFirst (Err e) faults = (others : List RowFault) × (faults ≡ e ∷ others)

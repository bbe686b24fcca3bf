-- The openings of rows (this project's own rules).
use Rattle.std.specs.Prelude.{Bool, true, false, List, [], ◌∷◌, ◌++◌, Some, None}
use Rattle.std.specs.List.{fold}
use Rattle.cns_trades.specs.declared.opening.Opening.{Opening}
use Rattle.cns_trades.specs.declared.opening.OpeningRow.{OpeningRow}
use Rattle.cns_trades.specs.declared.opening.OpeningRow.TheVariants as row
use Rattle.cns_depository.specs.Openings.{opening_fault}

-- the openings that stand, and whether a row fell out, after one more row: it falls out where it is faulty, or where something speaks against its opening
abbrev pub take_row : List Opening × Bool → OpeningRow → List Opening × Bool
take_row (held, fell_out) (row.Fault number fault) = (held, true)
take_row (held, fell_out) (row.Opening o) = elim (opening_fault held o) [ None ↦ (held ++ o ∷ [], fell_out) | Some _ ↦ (held, true) ]

abbrev pub openings_taken : List OpeningRow → List Opening × Bool
openings_taken rows = fold take_row ([], false) rows

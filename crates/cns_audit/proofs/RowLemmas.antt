-- The openings of rows stand when they are taken again.
use Rattle.std.proofs.Common.{◌≡◌, Bool, true, false, List, [], ◌∷◌, ◌++◌, Option, Some, None, refl, sym, ◌∙◌, ap, append_assoc}
use Rattle.std.specs.List.{fold}
use Rattle.std.proofs.lemmas.List.{append-nil}
use Rattle.cns_trades.specs.declared.opening.Opening.{Opening}
use Rattle.cns_trades.specs.declared.opening.OpeningRow.{OpeningRow}
use Rattle.cns_trades.specs.declared.opening.OpeningRow.TheVariants as row
use Rattle.cns_depository.specs.Openings.{opening_fault}
use Rattle.cns_depository.specs.declared.openings.OpeningFault.{OpeningFault}
use Rattle.cns_depository.specs.Ranges.{standing, with_opening}
use Rattle.cns_audit.specs.Rows.{take_row, openings_taken}

-- each opening of a list stands behind those before it
abbrev AllStand : List Opening → List Opening → Type 0
AllStand held [] = Unit {0}
AllStand held (o ∷ os) = (opening_fault held o ≡ None) × AllStand (held ++ o ∷ []) os

stand-more : (held os : List Opening) (o : Opening) → AllStand held os → opening_fault (held ++ os) o ≡ None → AllStand held (os ++ o ∷ [])
stand-more held [] o stand none = (ap (λ l. opening_fault l o) (sym (append-nil held)) ∙ none, tt)
stand-more held (x ∷ os) o stand none = (stand.0, stand-more (held ++ x ∷ []) os o stand.1 (ap (λ l. opening_fault l o) (append_assoc held (x ∷ []) os) ∙ none))

abbrev row-step : List Opening → Bool → Opening → Option OpeningFault → List Opening × Bool
row-step held fell_out o fault = elim fault [ None ↦ (held ++ o ∷ [], fell_out) | Some _ ↦ (held, true) ]

stand-opening : (held : List Opening) (fell_out : Bool) (o : Opening) (fault : Option OpeningFault) → opening_fault held o ≡ fault → AllStand [] held → AllStand [] (row-step held fell_out o fault).0
stand-opening held fell_out o None is stand = stand-more [] held o stand is
stand-opening held fell_out o (Some why) is stand = stand

stand-row : (state : List Opening × Bool) (r : OpeningRow) → AllStand [] state.0 → AllStand [] (take_row state r).0
stand-row (held, fell_out) (row.Fault number fault) stand = stand
stand-row (held, fell_out) (row.Opening o) stand = stand-opening held fell_out o (opening_fault held o) refl stand

stand-rows : (rows : List OpeningRow) (state : List Opening × Bool) → AllStand [] state.0 → AllStand [] (fold take_row state rows).0
stand-rows [] state stand = stand
stand-rows (r ∷ rows) state stand = stand-rows rows (take_row state r) (stand-row state r stand)

again : (held os : List Opening) → AllStand held os → fold with_opening held os ≡ held ++ os
again held [] stand = sym (append-nil held)
again held (o ∷ os) stand =
    ap (λ (f : Option OpeningFault). fold with_opening (elim f [ None ↦ held ++ o ∷ [] | Some _ ↦ held ]) os) stand.0 ∙ again (held ++ o ∷ []) os stand.1 ∙ append_assoc held (o ∷ []) os

pub stands-again : (rows : List OpeningRow) → standing (openings_taken rows).0 ≡ (openings_taken rows).0
stands-again rows = again [] (openings_taken rows).0 (stand-rows rows ([], false) tt)

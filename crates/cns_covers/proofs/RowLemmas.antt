-- What holds of the positions of a history, from what holds of each holding.
use Rattle.std.proofs.Common.{List, Option, Some, None}
use Rattle.std.specs.Prelude.{◌==◌, All, IfSome}
use Rattle.std.proofs.lemmas.Bool.{cond_both}
use Rattle.cns_netting.specs.History.{credit, debit, position_of}
use Rattle.cns_netting.specs.Rows.{holdings_of, open_row, rows_of}
use Rattle.cns_netting.specs.declared.entry.NetEntry.{NetEntry}
use Rattle.cns_ids.specs.declared.holding.Holding.{Holding}
use Rattle.cns_ids.proofs.ListLemmas.{All-filter_map}
use Rattle.cns_netting.specs.declared.position.PositionRow.{PositionRow}
use Rattle.cns_movements.specs.Book.{Orders}
use Rattle.cns_movements.specs.Order.{ask_for}
use Rattle.cns_movements.specs.declared.order.Ask.{Ask}
use Rattle.cns_movements.specs.declared.order.MoveKind.TheVariants.{Cover}
use Rattle.cns_covers.specs.Covers.{cover_of}
use Rattle.cns_covers.specs.declared.exemptions.Exempted.{Exempted}

-- the cover of a holding, where something is left to cover
abbrev pub cover_ask : List NetEntry → Orders → List Exempted → Holding → Option Ask
cover_ask h book settings k = ask_for Cover k.member k.issue (cover_of h book settings k.member k.issue)

-- what holds of the row of a holding, where its position is not 0
pub IfSome-open_row : (P : PositionRow → Type 0) (h : List NetEntry) (k : Holding)
    → P (record { issue = k.issue; member = k.member; position = position_of h k.member k.issue }) → IfSome (open_row h k) P
unfolding open_row
IfSome-open_row P h k holds = cond_both (credit h k.member k.issue == debit h k.member k.issue) None (Some _) (λ o. IfSome o P) (λ e. tt) (λ e. holds)

-- what holds of the position of each holding holds of all rows
pub All-rows_of : (P : PositionRow → Type 0) (h : List NetEntry) → ((k : Holding) → P (record { issue = k.issue; member = k.member; position = position_of h k.member k.issue }))
    → All P (rows_of h)
All-rows_of P h each =
    All-filter_map (open_row h) (λ (k : Holding). Unit {0}) P (λ k u. IfSome-open_row P h k (each k)) (holdings_of h) (λ i d below. tt)

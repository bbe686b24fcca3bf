-- The positions of a history, by issue, then member.
use Rattle.std.specs.Prelude.{ℕ, ◌==◌, Bool, List, [], ◌∷◌, Option, Some, None, if◌then◌else◌}
use Rattle.std.specs.List.{filter_map}
use Rattle.std.specs.BTreeSet.{insert_key}
use Rattle.cns_ids.specs.Holding.{holding_at, holding_cmp}
use Rattle.cns_netting.specs.History.{credit, debit, position_of}
use Rattle.cns_netting.specs.declared.entry.NetEntry.{NetEntry}
use Rattle.cns_netting.specs.declared.entry.NetEntry.TheVariants.{Accepted, Netted, Settled}
use Rattle.cns_ids.specs.declared.holding.Holding.{Holding}
use Rattle.cns_netting.specs.declared.position.PositionRow.{PositionRow}

-- the holdings that some entry names, each once, in order
unfoldable pub holdings_of : List NetEntry → List Holding
holdings_of [] = []
holdings_of (Accepted t ∷ h) = insert_key holding_cmp (insert_key holding_cmp (holdings_of h) (holding_at t.issue t.buyer)) (holding_at t.issue t.seller)
holdings_of (Settled member issue amount ∷ h) = insert_key holding_cmp (holdings_of h) (holding_at issue member)
holdings_of (Netted day ∷ h) = holdings_of h

-- the row of a holding, where its position is not 0
unfoldable pub open_row : List NetEntry → Holding → Option PositionRow
open_row h k =
    if credit h k.member k.issue == debit h k.member k.issue then None
    else Some (record { issue = k.issue; member = k.member; position = position_of h k.member k.issue })

-- the positions other than 0
abbrev pub rows_of : List NetEntry → List PositionRow
rows_of h = filter_map (open_row h) (holdings_of h)

-- whether a position is one in an issue
abbrev pub is_row_in : ℕ → PositionRow → Bool
is_row_in issue row = row.issue == issue

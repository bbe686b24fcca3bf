-- The position of each holding, by look-up, and how positions change.
use Rattle.std.specs.Prelude.{◌≡◌, ℕ, zero, suc, ◌+◌, ◌*◌, ◌^◌, ◌%◌, ◌≤◌, ◌&&◌, ◌==◌, Bool, false, List, [], ◌∷◌, AllPairs, Option, Some, None, IsSome, filter, pos, sum_by, unwrap_or}
use Rattle.std.specs.Prelude.{◌++◌, length, slice_get, if◌then◌else◌}
use Rattle.std.specs.declared.cmp.Ordering.TheVariants.{Less}
use Rattle.std.specs.List.Sorted.{IsPermutation, IsSortedByKey}
use Rattle.std.specs.Map.{keys_of, lookup}
use Rattle.std.specs.Option.{option_cmp}
use Rattle.cns_netting.specs.declared.undue.Change.{Change}
use Rattle.cns_netting.specs.declared.undue.Change.TheVariants.{Add}
use Rattle.cns_netting.specs.declared.undue.Undue.{Undue}
use Rattle.cns_netting.specs.History.{credit, credit_part, debit, debit_part}
use Rattle.cns_ids.specs.Holding.{holding_at, holding_cmp, holding_eq}
use Rattle.cns_ids.specs.Member.{IsMember}
use Rattle.cns_netting.specs.Rows.{is_row_in, rows_of}
use Rattle.cns_netting.specs.Undue.{delivering, if_settled, receiving}
use Rattle.cns_netting.specs.declared.entry.NetEntry.{NetEntry}
use Rattle.cns_ids.specs.declared.holding.Holding.{Holding}
use Rattle.cns_netting.specs.declared.position.PositionRow.{PositionRow}
use Rattle.cns_netting.specs.declared.positions.Position.{Position}

-- the holdings that are named with their positions, in the order in which they were, and for how many more there is room
pub record Holdings : Type 0 where
  pub entries : List (Holding × Position)
  pub room : ℕ

-- the position that a look-up found; one of no shares where the holding is not named
abbrev pub position_found : Option Position → Position
position_found o = unwrap_or o (record { shares = pos 0 })

-- the position of a member in an issue
abbrev pub position_among : List (Holding × Position) → ℕ → ℕ → Position
position_among positions member issue = position_found (lookup (holding_eq (holding_at issue member)) positions)

-- its shares where it is above 0, and where it is below 0, as a size
abbrev pub credit_among : List (Holding × Position) → ℕ → ℕ → ℕ
credit_among positions member issue = credit_part (position_among positions member issue).shares

abbrev pub debit_among : List (Holding × Position) → ℕ → ℕ → ℕ
debit_among positions member issue = debit_part (position_among positions member issue).shares

-- both holdings of a trade are named
abbrev pub IsNamed : List (Holding × Position) → Undue → Type 0
IsNamed positions t = IsSome (lookup (holding_eq (holding_at t.issue t.buyer)) positions) × IsSome (lookup (holding_eq (holding_at t.issue t.seller)) positions)

-- ---- what is added to positions: shares for each member in each issue

-- none
abbrev pub no_shares : ℕ → ℕ → ℕ
no_shares member issue = 0

-- those of one member in one issue
abbrev pub shares_only_at : ℕ → ℕ → ℕ → ℕ → ℕ → ℕ
shares_only_at one place shares member issue = if (one == member) && (place == issue) then shares else 0

-- what a trade brings and takes, as it is added or taken back
abbrev pub brought_by : Change → ℕ → ℕ → Undue → ℕ
brought_by change member issue t = shares_only_at (receiving change t) t.issue t.quantity member issue

abbrev pub taken_by : Change → ℕ → ℕ → Undue → ℕ
taken_by change member issue t = shares_only_at (delivering change t) t.issue t.quantity member issue

abbrev pub bought_by : ℕ → ℕ → Undue → ℕ
bought_by = brought_by Add

abbrev pub sold_by : ℕ → ℕ → Undue → ℕ
sold_by = taken_by Add

-- what trades bring and take
abbrev pub bought_in : List Undue → ℕ → ℕ → ℕ
bought_in trades member issue = sum_by (bought_by member issue) trades

abbrev pub sold_in : List Undue → ℕ → ℕ → ℕ
sold_in trades member issue = sum_by (sold_by member issue) trades

-- what those of them bring and take that settle by a day
abbrev pub brought_due : Change → ℕ → List Undue → ℕ → ℕ → ℕ
brought_due change day trades member issue = sum_by (if_settled day (brought_by change member issue)) trades

abbrev pub taken_due : Change → ℕ → List Undue → ℕ → ℕ → ℕ
taken_due change day trades member issue = sum_by (if_settled day (taken_by change member issue)) trades

-- holdings are the first ones of all
abbrev pub IsFrontOf : List Holding → List Holding → Type 0
IsFrontOf first all = (behind : List Holding) × (all ≡ first ++ behind)

-- positions once shares are added to them for holdings and against them; what was named keeps its place
pub record Adds (credit debit : ℕ → ℕ → ℕ) (old new : List (Holding × Position)) : Type 0 where
  pub balance : (m i : ℕ) → credit_among new m i + (debit_among old m i + debit m i) ≡ debit_among new m i + (credit_among old m i + credit m i)
  pub names : IsFrontOf (keys_of old) (keys_of new)

-- no position goes further than 3 * 10^18 shares from 0 by the shares for it alone, nor by those against it
pub record StayNear (credit debit : ℕ → ℕ → ℕ) (positions : List (Holding × Position)) : Type 0 where
  pub long : (m i : ℕ) → credit_among positions m i + credit m i ≤ debit_among positions m i + 3 * 10 ^ 18
  pub short : (m i : ℕ) → debit_among positions m i + debit m i ≤ credit_among positions m i + 3 * 10 ^ 18

-- each position is that of a history: what it has above 0 and below 0 differ as its credit and debit there
pub record ArePositionsOf (positions : List (Holding × Position)) (h : List NetEntry) : Type 0 where
  pub balance : (member issue : ℕ) → credit_among positions member issue + debit h member issue ≡ debit_among positions member issue + credit h member issue

-- ---- the order of the holdings

-- the place in a number that has a holding and its place
abbrev pub placed_at : ℕ → ℕ
placed_at placed = placed % 2 ^ 32

-- the places of the first n holdings
unfoldable pub places_below : ℕ → List ℕ
places_below zero = []
places_below (suc n) = places_below n ++ n ∷ []

-- the places of the first holdings that are named, as many as there are, each once, by issue, then member of the holdings there
pub record ArePlacesInOrder (order : List ℕ) (positions : List (Holding × Position)) : Type 0 where
  pub most : length order ≤ length positions
  pub each : IsPermutation (places_below (length order)) order
  pub sorted : IsSortedByKey (slice_get (keys_of positions)) (option_cmp holding_cmp) order

-- each holding that is named is one of a member, and `order` has the places of the first ones in order
pub record AreListed (positions : List (Holding × Position)) (order : List ℕ) : Type 0 where
  pub members : (k : Holding) → IsSome (lookup (holding_eq k) positions) → IsMember k.member
  pub places : ArePlacesInOrder order positions

-- ---- rows

-- the row of a holding by its position, where that is not 0
abbrev pub row_by : Holding → Option Position → Option PositionRow
row_by k None = None
row_by k (Some s) = if credit_part s.shares == debit_part s.shares then None else Some (record { issue = k.issue; member = k.member; position = s.shares })

-- a holding's row, where it is of an issue, if one is given
abbrev pub in_issue : Option ℕ → Holding → Option PositionRow → Option PositionRow
in_issue None k row = row
in_issue (Some issue) k row = if k.issue == issue then row else None

abbrev pub row_if : Option ℕ → Holding → Option Position → Option PositionRow
row_if issue k o = in_issue issue k (row_by k o)

-- the row of what stands in a place, where something does
abbrev pub row_of_entry : Option ℕ → Option (Holding × Position) → Option PositionRow
row_of_entry issue None = None
row_of_entry issue (Some e) = row_if issue e.0 (Some e.1)

abbrev pub row_in_place : Option ℕ → List (Holding × Position) → ℕ → Option PositionRow
row_in_place issue entries place = row_of_entry issue (slice_get entries place)

-- the issue of a holding; one after this issue where there is none
abbrev pub issue_or : ℕ → Option Holding → ℕ
issue_or issue None = issue + 1
issue_or issue (Some k) = k.issue

-- the issue of the holding in a place
abbrev pub issue_in : List (Holding × Position) → ℕ → ℕ → ℕ
issue_in positions issue place = issue_or issue (slice_get (keys_of positions) place)

-- rows of an issue alone, where one is given
abbrev pub rows_if : Option ℕ → List PositionRow → List PositionRow
rows_if None rows = rows
rows_if (Some issue) rows = filter (is_row_in issue) rows

-- rows that are those of positions, of an issue alone, where one is given: by their sums, so in any order, and in order
abbrev pub HaveRowsOf : Option ℕ → List (Holding × Position) → List PositionRow → Type 0
HaveRowsOf issue positions rows = (h : List NetEntry) → ArePositionsOf positions h → (f : PositionRow → ℕ) → sum_by f rows ≡ sum_by f (rows_if issue (rows_of h))

abbrev pub AreRowsOf : Option ℕ → List (Holding × Position) → List PositionRow → Type 0
AreRowsOf issue positions rows = (h : List NetEntry) → ArePositionsOf positions h → rows ≡ rows_if issue (rows_of h)

-- a number of a row, where there is one
abbrev pub row_part : (PositionRow → ℕ) → Option PositionRow → ℕ
row_part f None = 0
row_part f (Some row) = f row

-- whether a row passes a test, where there is one
abbrev pub row_passes : (PositionRow → Bool) → Option PositionRow → Bool
row_passes p None = false
row_passes p (Some row) = p row

-- the holdings of the members 1 to n in an issue
unfoldable pub holdings_up_to : ℕ → ℕ → List Holding
holdings_up_to zero issue = []
holdings_up_to (suc n) issue = holding_at issue (suc n) ∷ holdings_up_to n issue

-- the holding of a row
abbrev pub holding_of : PositionRow → Holding
holding_of row = holding_at row.issue row.member

-- a row's holding does not stand before that of another; rows in order, of which no later one's does
abbrev pub IsNotBefore : PositionRow → PositionRow → Type 0
IsNotBefore row later = holding_cmp (holding_of later) (holding_of row) ≡ Less → ⊥

abbrev pub AreInOrder : List PositionRow → Type 0
AreInOrder = AllPairs IsNotBefore

-- The covers that a cycle orders (this project's own rule). Histories stand newest first.
use Rattle.std.specs.Prelude.{ℕ, ◌+◌, ◌-◌, ◌≤◌, ◌==◌, Bool, not, List, [], ◌∷◌, Option}
use Rattle.std.specs.List.{filter_map}
use Rattle.cns_netting.specs.History.{credit, debit, debit_part}
use Rattle.cns_netting.specs.Rows.{holdings_of}
use Rattle.cns_netting.specs.declared.entry.NetEntry.{NetEntry}
use Rattle.cns_netting.specs.declared.entry.NetEntry.TheVariants.{Accepted, Netted, Settled}
use Rattle.cns_netting.specs.declared.position.PositionRow.{PositionRow}
use Rattle.cns_movements.specs.Order.{ask_for, open_sum}
use Rattle.cns_movements.specs.Book.{Orders}
use Rattle.cns_movements.specs.declared.order.Ask.{Ask}
use Rattle.cns_movements.specs.declared.order.MoveKind.TheVariants.{Cover}
use Rattle.cns_covers.specs.Exemptions.{exempt_of}
use Rattle.cns_covers.specs.declared.exemptions.Exempted.{Exempted}

-- the shares that a member is to cover in an issue: what it is short of, less open covers and the exemption
abbrev pub cover_of : List NetEntry → Orders → List Exempted → ℕ → ℕ → ℕ
cover_of h book settings member issue =
    (debit h member issue - credit h member issue) - (open_sum book.orders book.replies Cover member issue + exempt_of settings member issue)

-- the covers of a history, by issue, then member: that of each holding, where something is left to cover
abbrev pub covers_of : List NetEntry → Orders → List Exempted → List Ask
covers_of h book settings = filter_map (λ k. ask_for Cover k.member k.issue (cover_of h book settings k.member k.issue)) (holdings_of h)

-- no member is short of more than 10^18 shares in an issue
pub record ShortsFit (h : List NetEntry) : Type 0 where
  pub within : (member issue : ℕ) → debit h member issue - credit h member issue ≤ 1000000000000000000

-- the history has no settlement
abbrev pub IsUnsettled : List NetEntry → Type 0
IsUnsettled [] = Unit {0}
IsUnsettled (Accepted t ∷ h) = IsUnsettled h
IsUnsettled (Netted d ∷ h) = IsUnsettled h
IsUnsettled (Settled m i z ∷ h) = ⊥

-- the shares that a position is below 0
abbrev pub short_of : PositionRow → ℕ
short_of row = debit_part row.position

-- the shares of a position that are left to cover: what it is short of, less open covers and the exemption
abbrev pub left_of : Orders → List Exempted → PositionRow → ℕ
left_of book settings row =
    short_of row - (open_sum book.orders book.replies Cover row.member row.issue + exempt_of settings row.member row.issue)

-- the cover of a position as a row, where something is left to cover
unfoldable pub row_ask : Orders → List Exempted → PositionRow → Option Ask
row_ask book settings row = ask_for Cover row.member row.issue (left_of book settings row)

-- whether a position has a cover
unfoldable pub has_ask : Orders → List Exempted → PositionRow → Bool
has_ask book settings row = not (left_of book settings row == 0)

-- The balances of a depository, by issue, then account (this project's own rules).
use Rattle.std.specs.Prelude.{◌≢◌, ℕ, ◌+◌, ◌==◌, List, [], ◌∷◌, Option, Some, None, map, fold, if◌then◌else◌}
use Rattle.std.specs.List.{filter_map, Contains}
use Rattle.std.specs.List.Sorted.{IsStrictlySortedBy}
use Rattle.std.specs.declared.cmp.Ordering.{Ordering}
use Rattle.std.specs.Ordering.{nat_cmp, ordering_then}
use Rattle.std.specs.BTreeSet.{insert_key}
use Rattle.cns_records.specs.declared.dep_record.DepRecord.{DepRecord}
use Rattle.cns_trades.specs.declared.opening.Opening.{Opening}
use Rattle.cns_depository.specs.declared.account.Account.{Account}
use Rattle.cns_depository.specs.declared.account.Account.TheVariants.{Cns, Member}
use Rattle.cns_depository.specs.declared.account.Side.{Side}
use Rattle.cns_depository.specs.declared.account.Side.TheVariants.{Outside, At}
use Rattle.cns_depository.specs.declared.place.Place.{Place}
use Rattle.cns_depository.specs.declared.balances.BalanceRow.{BalanceRow}
use Rattle.cns_depository.specs.Stock.{balance_of, transfer_of}

-- the rank of an account: the CNS account first, then the members by number; and that of a side: the outside first
abbrev pub account_rank : Account → ℕ
account_rank account = elim account [ Cns ↦ 0 | Member m ↦ m + 1 ]

abbrev pub side_rank : Side → ℕ
side_rank Outside = 0
side_rank (At account) = account_rank account + 1

-- the order of places: by issue, then side
abbrev pub place_cmp : Place → Place → Ordering
place_cmp a b = ordering_then (nat_cmp a.issue b.issue) (nat_cmp (side_rank a.side) (side_rank b.side))

-- the places that some opening or transfer names, each once, ascending
unfoldable pub stock_places : List Opening → List DepRecord → List Place
stock_places openings [] = fold (λ ps o. insert_key place_cmp ps (record { issue = o.issue; side = At (Member o.member) })) [] openings
stock_places openings (e ∷ p) =
    let t = transfer_of e in fold (λ ps s. insert_key place_cmp ps (record { issue = t.issue; side = s })) (stock_places openings p) (t.giver ∷ t.receiver ∷ [])

-- the row of an account that holds so many shares of an issue, where it holds any
abbrev pub shares_row : ℕ → Account → ℕ → Option BalanceRow
shares_row issue account shares = if shares == 0 then None else Some (record { issue = issue; account = account; shares = shares })

-- the row of a place that is an account's, where its balance is not 0
abbrev pub account_row : List Opening → List DepRecord → Account → ℕ → Option BalanceRow
account_row openings p account issue = shares_row issue account (balance_of openings p account issue)

abbrev pub side_row : List Opening → List DepRecord → Side → ℕ → Option BalanceRow
side_row openings p Outside issue = None
side_row openings p (At account) issue = account_row openings p account issue

unfoldable pub balance_row : List Opening → List DepRecord → Place → Option BalanceRow
balance_row openings p k = side_row openings p k.side k.issue

-- the balances other than 0
abbrev pub balance_rows : List Opening → List DepRecord → List BalanceRow
balance_rows openings p = filter_map (balance_row openings p) (stock_places openings p)

-- a row's place
abbrev pub row_place : BalanceRow → Place
row_place row = record { issue = row.issue; side = At row.account }

-- the rows stand by issue, then account, each place once
abbrev pub AreAscending : List BalanceRow → Type 0
AreAscending rows = IsStrictlySortedBy place_cmp (map row_place rows)

-- each balance other than 0 has its row
abbrev pub AreComplete : List Opening → List DepRecord → List BalanceRow → Type 0
AreComplete openings p rows =
    (account : Account) → (issue : ℕ) → balance_of openings p account issue ≢ 0
    → Contains rows (record { issue = issue; account = account; shares = balance_of openings p account issue })

-- The places of a report of balances (this project's own rules).
use Rattle.std.specs.Prelude.{◌≡◌, ℕ, ◌+◌, ◌*◌, ◌^◌, Bool, List, ◌++◌, map, Option, None, if◌then◌else◌}
use Rattle.std.specs.HashMap.{keys, IsUnique}
use Rattle.std.specs.List.{filter_map, IsDistinct}
use Rattle.std.specs.Set.{is_member}
use Rattle.cns_ids.specs.CusipNumber.{narrowed}
use Rattle.cns_records.specs.declared.dep_record.DepRecord.{DepRecord}
use Rattle.cns_trades.specs.declared.opening.Opening.{Opening}
use Rattle.cns_depository.specs.declared.account.Account.TheVariants.{Member}
use Rattle.cns_depository.specs.declared.account.Side.TheVariants.{At}
use Rattle.cns_depository.specs.declared.balances.BalanceRow.{BalanceRow}
use Rattle.cns_depository.specs.declared.place.Place.{Place}
use Rattle.cns_depository.specs.declared.stock.Stock.{Stock}
use Rattle.cns_depository.specs.Balances.{balance_row, side_rank}
use Rattle.cns_depository.specs.Totals.{place_eq}

-- the issue, as it is held, and the rank of the side as one number
abbrev pub place_word : Place → ℕ
place_word k = narrowed 9 k.issue * 2 ^ 64 + side_rank k.side

-- the place that an opening names
abbrev pub opened_place : Opening → Place
opened_place o = record { issue = o.issue; side = At (Member o.member) }

-- whether an opening names a place
abbrev pub is_opened : List Opening → Place → Bool
is_opened openings k = is_member place_eq (map opened_place openings) k

-- the row of a place that no opening names, where it is an account's whose balance is not 0
abbrev pub unopened_row : List Opening → List DepRecord → Place → Option BalanceRow
unopened_row openings p k = if is_opened openings k then None else balance_row openings p k

-- the rows of the places that openings name, then those of the other places to or from which something was moved
abbrev pub named_rows : List Opening → Stock → List DepRecord → List BalanceRow
named_rows openings stock p =
    filter_map (balance_row openings p) (map opened_place openings) ++ filter_map (unopened_row openings p) (keys stock.moved)

-- rows are these, and each place has one at most
pub record AreNamedRows (openings : List Opening) (stock : Stock) (p : List DepRecord) (rows : List BalanceRow) : Type 0 where
  pub rows_are : rows ≡ named_rows openings stock p
  pub opened_once : IsDistinct place_eq (map opened_place openings)
  pub moved_once : IsUnique place_eq stock.moved

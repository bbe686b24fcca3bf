-- The pool of an issue, as the clearing node has it: the shares that confirmed covers brought to account 0, the CNS account, and that no confirmed
-- delivery took. They are free, lent to the open lot of the issue, or out, which unconfirmed deliveries ask for. All are sums over the orders of a book
-- and their confirmations, and what the open lots hold: a movement that is executed and not confirmed has changed the balance of account 0 at the
-- depository, and not yet these sums. (This project's own rules.)
use Rattle.std.specs.Prelude.{ℕ, ◌+◌, ◌-◌, ◌&&◌, ◌==◌, List, [], ◌∷◌, Option, Some, None, find, fold, option_map, unwrap_or, sum_by, if◌then◌else◌}
use Rattle.std.specs.List.{filter_map}
use Rattle.std.specs.Ordering.{nat_cmp}
use Rattle.std.specs.BTreeSet.{insert_key}
use Rattle.cns_movements.specs.Order.{is_delivery, moved_part, open_part, same_kind}
use Rattle.cns_movements.specs.Book.{Orders}
use Rattle.cns_movements.specs.declared.order.Ask.{Ask}
use Rattle.cns_movements.specs.declared.order.MoveKind.{MoveKind}
use Rattle.cns_movements.specs.declared.order.MoveKind.TheVariants.{Cover, Delivery}
use Rattle.cns_movements.specs.declared.order.Order.{Order}
use Rattle.cns_clearing.specs.declared.lot.Lot.{Lot}
use Rattle.cns_clearing.specs.declared.pools.PoolRow.{PoolRow}

-- what an order adds to a sum over those of a kind in an issue
abbrev pub kind_part : MoveKind → ℕ → (Order → ℕ) → Order → ℕ
kind_part kind issue amount o = if same_kind kind o.kind && (o.issue == issue) then amount o else 0

-- the shares that confirmed covers brought in an issue
unfoldable pub covered_of : Orders → ℕ → ℕ
covered_of book issue = sum_by (kind_part Cover issue (moved_part book.replies)) book.orders

-- the shares that unconfirmed deliveries ask for
unfoldable pub out_of : Orders → ℕ → ℕ
out_of book issue = sum_by (kind_part Delivery issue (open_part book.replies)) book.orders

-- the shares that confirmed deliveries took in an issue
unfoldable pub delivered_of : Orders → ℕ → ℕ
delivered_of book issue = sum_by (kind_part Delivery issue (moved_part book.replies)) book.orders

-- the shares that the deliveries of an issue among new orders ask for
unfoldable pub asked_of_pool : ℕ → List Ask → ℕ
asked_of_pool issue [] = 0
asked_of_pool issue (a ∷ asks) = (if is_delivery a.kind && (a.issue == issue) then a.asked else 0) + asked_of_pool issue asks

-- the shares that confirmed covers brought, less those that confirmed deliveries took and those that unconfirmed ones ask for
abbrev pub avail_of : Orders → ℕ → ℕ
avail_of book issue = covered_of book issue - (delivered_of book issue + out_of book issue)

-- the open lot of an issue, where there is one
abbrev pub lot_of : List Lot → ℕ → Option Lot
lot_of lots issue = find (λ (lot : Lot). lot.issue == issue) lots

-- the shares that are lent, which is to say set aside for the open lot of the issue: they were poured into it (no loan of shares is meant)
abbrev pub lent_of : List Lot → ℕ → ℕ
lent_of lots issue = unwrap_or (option_map (λ (lot : Lot). lot.poured) (lot_of lots issue)) 0

-- the shares that are free: those that are not lent
abbrev pub free_of : Orders → List Lot → ℕ → ℕ
free_of book lots issue = avail_of book issue - lent_of lots issue

-- the issues that some order names, each once, in order
unfoldable pub issues_of : List Order → List ℕ
issues_of orders = fold (λ issues o. insert_key nat_cmp issues o.issue) [] orders

-- the pool of an issue, where it has shares
unfoldable pub pool_row : Orders → List Lot → ℕ → Option PoolRow
pool_row book lots issue =
    if (free_of book lots issue == 0) && (lent_of lots issue == 0) && (out_of book issue == 0) then None
    else Some (record { issue = issue; free = free_of book lots issue; lent = lent_of lots issue; out = out_of book issue })

-- the pools that have shares, by issue
abbrev pub rows_of_pools : Orders → List Lot → List PoolRow
rows_of_pools book lots = filter_map (pool_row book lots) (issues_of book.orders)

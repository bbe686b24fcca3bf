-- What the orders of each issue come to, by look-up.
use Rattle.std.specs.Prelude.{◌≡◌, ℕ, ◌*◌, ◌^◌, ◌≤◌, ◌==◌, Bool, List, length, Option, Some, None, is_some, sum_by}
use Rattle.std.specs.List.{list_any}
use Rattle.cns_movements.specs.Book.{IsOrderBook, Orders}
use Rattle.cns_movements.specs.declared.order.Ask.{Ask}
use Rattle.cns_movements.specs.declared.order.Order.{Order}
use Rattle.cns_clearing.specs.Pools.{covered_of, delivered_of, out_of}
use Rattle.cns_clearing.specs.declared.pool_sums.PoolSums.{PoolSums}

-- the sums that are found; all are 0 where there are none
abbrev pub sums_at : Option PoolSums → PoolSums
sums_at None = record { covered = 0; delivered = 0; out = 0 }
sums_at (Some sums) = sums

-- the sums of each issue are those over the orders of a lawful book, which ask for at most 10^18 shares each
pub record AreSumsOf (sums : ℕ → PoolSums) (book : Orders) : Type 0 where
  pub lawful : IsOrderBook book
  pub covered : (issue : ℕ) → (sums issue).covered ≡ covered_of book issue
  pub delivered : (issue : ℕ) → (sums issue).delivered ≡ delivered_of book issue
  pub out : (issue : ℕ) → (sums issue).out ≡ out_of book issue
  pub asked : sum_by (λ (o : Order). o.asked) book.orders ≤ 10 ^ 18 * length book.orders

-- whether some order, and whether some ask, is of an issue
abbrev pub is_named : ℕ → List Order → Bool
is_named issue orders = list_any (λ (o : Order). o.issue == issue) orders

abbrev pub asks_for : ℕ → List Ask → Bool
asks_for issue asks = list_any (λ (a : Ask). a.issue == issue) asks

-- what is kept by issue are the sums of a book; an issue has some exactly where an order names it
pub record ArePools (pools : ℕ → Option PoolSums) (book : Orders) : Type 0 where
  pub sums : AreSumsOf (λ issue. sums_at (pools issue)) book
  pub named : (issue : ℕ) → is_some (pools issue) ≡ is_named issue book.orders

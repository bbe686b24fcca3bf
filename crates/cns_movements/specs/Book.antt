-- What contracts see of an order book.
use Rattle.std.specs.Prelude.{◌≡◌, ℕ, ◌+◌, ◌<◌, ◌≤◌, List, ◌∷◌, ◌++◌, length, map, slice_index_or, IsSome, Option, None}
use Rattle.cns_ids.specs.declared.cycle.CycleId.{CycleId}
use Rattle.cns_movements.specs.declared.order.Ask.{Ask}
use Rattle.cns_movements.specs.declared.order.Order.{Order}
use Rattle.cns_movements.specs.declared.order.Reply.{Reply}
use Rattle.cns_movements.specs.Order.{moved_of, numbered, IsNumbered, AreKnown, AreConfirmedOnce}

-- the orders with the oldest first, and the confirmations with the newest first
pub record Orders : Type 0 where
  pub orders : List Order
  pub replies : List Reply

-- a book, and how many more orders and confirmations there is room for
pub record OrderRoom : Type 0 where
  pub book : Orders
  pub order_room : ℕ
  pub reply_room : ℕ

-- the next orders of a book: these asks, of this cycle, under the numbers after those of its orders
abbrev pub next_orders : Orders → Option CycleId → List Ask → List Order
next_orders book cycle asks = numbered (length book.orders + 1) cycle asks

-- the book with these asks as its next orders
abbrev pub with_asks : Orders → Option CycleId → List Ask → Orders
with_asks book cycle asks = record book { orders = book.orders ++ next_orders book cycle asks }

-- the book with one more confirmation
abbrev pub with_reply : Orders → Reply → Orders
with_reply book reply = record book { replies = reply ∷ book.replies }

-- the orders have the numbers 1, 2, and so on; each is confirmed at most once and at most in full
pub record IsOrderBook (book : Orders) : Type 0 where
  pub numbered : IsNumbered 1 book.orders
  pub few : length book.orders ≤ 1000000
  pub known : AreKnown book.orders book.replies
  pub once : AreConfirmedOnce book.replies

-- a book with what each of its orders moved beside it, in the order of the numbers
pub record IsStored (book : Orders) (moved : List (Option ℕ)) : Type 0 where
  pub lawful : IsOrderBook book
  pub moves : moved ≡ map (λ o. moved_of book.replies o.number) book.orders

-- the first so many orders are all confirmed, by what each order moved
pub record AreSettled (count : ℕ) (moved : List (Option ℕ)) : Type 0 where
  pub within : count ≤ length moved
  pub all : (k : ℕ) → k < count → IsSome (slice_index_or moved k None)

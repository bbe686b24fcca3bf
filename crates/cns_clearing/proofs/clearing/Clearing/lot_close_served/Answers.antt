use Rattle.std.proofs.Common.{◌≡◌, ◌∙◌, Bool, ap, false, length, refl, rules}
use Rattle.std.specs.Prelude.{min}
use Rattle.cns_movements.specs.Book.{next_orders}
use Rattle.cns_pool.specs.Pool.{asked_sum}
use Rattle.cns_records.proofs.CallLemmas.{refused}
use Rattle.cns_clearing.specs.Answers.{close_call, deliveries_by, tested_close_call}
use Rattle.cns_clearing.specs.Books.{Books, are_spent, latest_of, order_book_of}
use Rattle.cns_clearing.proofs.AllocationLemmas.{allocable, asked_small, close_asks}
use Rattle.cns_clearing.proofs.CallsLemmas.{adds, close_goes, short_of}
use Rattle.cns_clearing.proofs.DrawnLemmas.{tickets_drawn}
use Rattle.cns_clearing.proofs.clearing.Clearing.lot_close_served.Goals as goal

pub allocation_of-requires : goal.allocation_of-requires
allocation_of-requires g c = c.in_ok-lot.ensures.recordable

pub numbered_orders-requires : goal.numbered_orders-requires
numbered_orders-requires g c =
    let closes = c.in_ok-lot.ensures.closes in
    let asks = close_asks _ _ _ _ _ _ _ closes c.count-poured.ensures.value c.in_ok-asks.ensures.exact in
    ap (λ (b : Books). are_spent b.orders (length c.as_slice.result.now)) c.books-books.ensures.books ∙ rw (c.as_slice.ensures.value, asks) closes.numbers

pub asked_in_all-requires : goal.asked_in_all-requires
asked_in_all-requires g c = rw tickets_drawn at (asked_small _ _ c.books-books.ensures.lawful c.books-books.ensures.fits c.in_ok-lot.ensures.closes.lawful)

pub add-requires-clause-allowed : goal.add-requires-clause-allowed
add-requires-clause-allowed g c =
    let closes = c.in_ok-lot.ensures.closes in
    rw c.in_ok-allocation.ensures (allocable _ _ c.books-books.ensures.lawful c.books-books.ensures.fits closes.lawful closes.numbers)

pub add-requires-clause-effects : goal.add-requires-clause-effects
add-requires-clause-effects g c =
    let asks = close_asks _ _ _ _ _ _ _ c.in_ok-lot.ensures.closes c.count-poured.ensures.value c.in_ok-asks.ensures.exact in
    rw c.in_ok-allocation.ensures (record { asks = c.of_asks-effects.ensures.asks ∙ asks; rows = c.of_asks-effects.ensures.rows })

pub returns-in_err-up : goal.returns-in_err-up
unfolding tested_close_call
returns-in_err-up g c = rw c.in_err-up.ensures.down.1 (search rules, refl)

pub returns-in_err-lot : goal.returns-in_err-lot
returns-in_err-lot g c =
    let self = c.args.self.now in
    let up : self.log.down ≡ false = search rules in
    let call = ap (λ (down : Bool). close_call c.args.issue c.args.tickets.now c.args.sealed down self.log.records self.lots) up in
    refused _ _ _ _ _ _ _ (call ∙ c.in_err-lot.ensures.refused) (search rules) refl

pub returns-in_err-allocation : goal.returns-in_err-allocation
returns-in_err-allocation g c = short_of _ _ _ _ _ _ (close_goes c.args.self.now _ _ _ _ (search rules) c.in_ok-lot.ensures.closes) (search rules) refl

pub returns-in_err-asks : goal.returns-in_err-asks
returns-in_err-asks g c = short_of _ _ _ _ _ _ (close_goes c.args.self.now _ _ _ _ (search rules) c.in_ok-lot.ensures.closes) (search rules) refl

pub returns-in_err-orders : goal.returns-in_err-orders
returns-in_err-orders g c = short_of _ _ _ _ _ _ (close_goes c.args.self.now _ _ _ _ (search rules) c.in_ok-lot.ensures.closes) (search rules) refl

pub returns-in_err-add : goal.returns-in_err-add
returns-in_err-add g c =
    adds _ _ _ c.add.result _ _ _ (close_goes c.args.self.now _ _ _ _ (search rules) c.in_ok-lot.ensures.closes) (search rules) (rw c.in_ok-allocation.ensures at c.add.ensures.commits)

pub returns : goal.returns
returns g c =
    let closes = c.in_ok-lot.ensures.closes in
    let lot = c.in_ok-lot.lot.now in
    let asks = close_asks _ _ _ _ _ _ _ closes c.count-poured.ensures.value c.in_ok-asks.ensures.exact in
    let granted : c.min-granted.result ≡ min lot.poured (asked_sum c.args.tickets.now) = search (rules, c.count-poured.ensures.value) in
    let orders : c.in_ok-orders.orders ≡ next_orders (order_book_of c.args.self.now.log.records) (latest_of c.args.self.now.log.records) (deliveries_by lot c.args.tickets.now c.args.sealed) =
    c.in_ok-orders.ensures ∙ rw (c.latest.ensures, c.books-books.ensures.books, c.as_slice.ensures.value, asks) refl in
    adds _ _ _ c.add.result _ _ _ (close_goes c.args.self.now _ _ _ _ (search rules) closes) (rw (c.in_ok-add.was, granted, orders)) (rw c.in_ok-allocation.ensures at c.add.ensures.commits)

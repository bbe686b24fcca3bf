-- What orders and tickets come to over all members.
use Rattle.std.proofs.Common.{◌≡◌, ◌≤◌, ℕ, ◌+◌, List, [], ◌∷◌, Some, Bool, true, false, refl, arith}
use Rattle.std.specs.Prelude.{◌==◌}
use Rattle.std.proofs.lemmas.Bool.{eqb-true}
use Rattle.cns_netting.specs.History.{due}
use Rattle.cns_netting.specs.declared.entry.NetEntry.TheVariants.{Netted}
use Rattle.cns_movements.specs.Book.{IsOrderBook}
use Rattle.cns_movements.specs.declared.order.Ask.{Ask}
use Rattle.cns_movements.specs.declared.order.MoveKind.TheVariants.{Cover}
use Rattle.cns_movements.proofs.ConfirmLemmas.{taken_from_done}
use Rattle.cns_allocate.proofs.DeliveryLemmas.{deliveries_sum}
use Rattle.cns_covers.proofs.BoundLemmas.{covers_are_covers}
use Rattle.cns_covers.proofs.TotalLemmas.{moved_total, sold_all}
use Rattle.cns_records.specs.Clear.{AreWritable}
use Rattle.cns_records.specs.declared.allocation.Allocation.{Allocation}
use Rattle.cns_records.specs.declared.clear_record.ClearRecord.{ClearRecord}
use Rattle.cns_records.specs.declared.clear_record.ClearRecord.TheVariants.{Cycle, Allocate, Confirm}
use Rattle.cns_movements.specs.Order.{moved_part}
use Rattle.cns_clearing.specs.Books.{Books, Allows, IsAllocable, IsLawful, books_of, covers_on, deliveries_in, order_book_of, pool_tickets, with_record}
use Rattle.cns_clearing.specs.Lots.{avail_in}
use Rattle.cns_clearing.specs.Pools.{asked_of_pool, avail_of, covered_of, delivered_of, kind_part, out_of}
use Rattle.cns_clearing.proofs.BalanceLemmas.{member_part}
use Rattle.cns_clearing.proofs.BooksLemmas.{lawful_bounded, lawful_sound}
use Rattle.cns_clearing.proofs.PoolLemmas.{allocation_issue, covered_confirmed, covered_ordered, covers_deliver_nothing, delivered_most, delivered_ordered, others_deliver_nothing, out_ordered, taken_confirmed}
use Rattle.cns_clearing.proofs.PositionLemmas.{lawful_moved}

-- ---- the shares that covers brought

-- covers brought at most 10^18 shares of an issue, so at most that many are there
pub avail_most : (c : List ClearRecord) (issue : ℕ) → IsLawful c → AreWritable c → avail_in c issue ≤ 1000000000000000000
unfolding covered_of
avail_most c issue lawful fits =
    let b : Books = books_of c in
    let sound = lawful_sound c lawful fits in
    let total =
    moved_total (due b.history) b.orders.orders (kind_part Cover issue (moved_part b.orders.replies)) issue
    (λ m. omega (arith, member_part Cover b.orders.replies b.orders.orders m issue, (lawful_moved c m issue lawful).brought, sound.bounded.covered m issue)) in
    omega (arith, total, sold_all b.history sound.netted)

-- ---- the shares that deliveries take

-- an allocation takes no more of its issue than is there, and nothing of another one
allocation_takes : (b : Books) (a : Allocation) (issue : ℕ) → IsAllocable b a → asked_of_pool issue (deliveries_in a) ≤ avail_of b.orders issue
allocation_takes b a issue allocable = by (issue == a.issue) refl
  where
    by : (its : Bool) → (issue == a.issue) ≡ its → asked_of_pool issue (deliveries_in a) ≤ avail_of b.orders issue
    by true e =
        let there : a.poured ≤ avail_of b.orders issue = rw (eqb-true issue a.issue e) allocable.there in
        omega (arith, there, delivered_most (deliveries_in a) issue, deliveries_sum a.issue a.poured (pool_tickets a.drawn) allocable.chained)
    by false e = omega (arith, others_deliver_nothing (deliveries_in a) issue a.issue e (allocation_issue b a allocable))

-- with one more record deliveries still take no more than covers brought
taken_more : (r : ClearRecord) (b : Books) (issue : ℕ) → IsOrderBook b.orders → Allows b r → delivered_of b.orders issue + out_of b.orders issue ≤ covered_of b.orders issue
    → delivered_of (with_record r b).orders issue + out_of (with_record r b).orders issue ≤ covered_of (with_record r b).orders issue
taken_more (Cycle id) b issue ordered allowed before =
    let asks : List Ask = covers_on b id.day in
    let none = covers_deliver_nothing asks issue (covers_are_covers (Netted id.day ∷ b.history) b.orders b.exemptions) in
    omega (arith, before, covered_ordered b.orders (Some id) asks issue ordered, delivered_ordered b.orders (Some id) asks issue ordered, out_ordered b.orders (Some id) asks issue ordered, none)
taken_more (Allocate a) b issue ordered allowed before =
    let asks : List Ask = deliveries_in a in
    let takes = allocation_takes b a issue allowed in
    omega (arith, before, covered_ordered b.orders b.latest asks issue ordered, delivered_ordered b.orders b.latest asks issue ordered, out_ordered b.orders b.latest asks issue ordered, takes)
taken_more (Confirm r) b issue ordered allowed before =
    let taken = taken_from_done b.orders r allowed in
    omega (arith, before, covered_confirmed b.orders r issue ordered taken, taken_confirmed b.orders r issue ordered taken)
taken_more _ b issue ordered allowed before = before

-- deliveries never take more shares of an issue than covers brought
pub taken_covered : (c : List ClearRecord) (issue : ℕ) → IsLawful c → delivered_of (order_book_of c) issue + out_of (order_book_of c) issue ≤ covered_of (order_book_of c) issue
unfolding books_of covered_of delivered_of out_of
taken_covered [] issue lawful = omega arith
taken_covered (r ∷ c) issue lawful = taken_more r (books_of c) issue (lawful_bounded c lawful.1).ordered lawful.0 (taken_covered c issue lawful.1)

-- What covers brought and deliveries take of an issue, record by record: its shares stay there while no lot of it closes.
use Rattle.std.proofs.Common.{◌≡◌, ℕ, suc, ◌+◌, ◌≤◌, Bool, true, false, List, [], ◌∷◌, ◌++◌, length, Option, None, refl, arith}
use Rattle.std.specs.Prelude.{◌==◌, ◌&&◌, All, is_some, sum_by, unwrap_or, if◌then◌else◌}
use Rattle.std.proofs.lemmas.Bool.{and_right}
use Rattle.std.proofs.lemmas.List.Elements.{All-head, All-tail, All-weaker}
use Rattle.std.proofs.lemmas.List.Sums.{sum_by-append, sum_by-cons}
use Rattle.cns_ids.specs.declared.cycle.CycleId.{CycleId}
use Rattle.cns_movements.specs.Book.{IsOrderBook, Orders, with_asks, with_reply}
use Rattle.cns_movements.specs.Order.{is_cover, is_delivery, moved_of, moved_part, numbered, open_part}
use Rattle.cns_movements.specs.declared.order.Ask.{Ask}
use Rattle.cns_movements.specs.declared.order.MoveKind.TheVariants.{Cover, Delivery}
use Rattle.cns_movements.specs.declared.order.Order.{Order}
use Rattle.cns_movements.specs.declared.order.Reply.{Reply}
use Rattle.cns_movements.proofs.AskLemmas.{not_issue}
use Rattle.cns_movements.proofs.ConfirmLemmas.{IsTaken, taken_from_done}
use Rattle.cns_movements.proofs.ReplyLemmas.{moved_new, moved_of_above, moved_with_reply, open_new, open_with_reply}
use Rattle.cns_allocate.proofs.DeliveryLemmas.{deliveries_within}
use Rattle.cns_covers.specs.Bounds.{want_in}
use Rattle.cns_ids.proofs.ListLemmas.{at_most}
use Rattle.cns_records.specs.declared.allocation.Allocation.{Allocation}
use Rattle.cns_records.specs.declared.clear_record.ClearRecord.{ClearRecord}
use Rattle.cns_records.specs.declared.clear_record.ClearRecord.TheVariants.{Cycle, Allocate, Confirm}
use Rattle.cns_clearing.specs.Books.{Books, Allows, IsLawful, books_of, deliveries_in, pool_tickets, with_record}
use Rattle.cns_clearing.specs.Lots.{AreQuiet, IsQuiet, avail_in}
use Rattle.cns_clearing.specs.Pools.{asked_of_pool, avail_of, covered_of, delivered_of, kind_part, out_of}
use Rattle.cns_clearing.proofs.BooksLemmas.{lawful_bounded}

-- ---- as they are

-- what a delivery takes of the pool: what it moved, and what it asks for while it is not confirmed
abbrev pub taken_part : List Reply → Order → ℕ
taken_part replies o = unwrap_or (moved_of replies o.number) o.asked

-- so deliveries take what they moved, and what those ask for that are not confirmed
taken_parts : (rs : List Reply) (issue : ℕ) (orders : List Order)
    → sum_by (kind_part Delivery issue (taken_part rs)) orders ≡ sum_by (kind_part Delivery issue (moved_part rs)) orders + sum_by (kind_part Delivery issue (open_part rs)) orders
taken_parts rs issue [] = refl
taken_parts rs issue (o ∷ orders) = omega (arith, by (is_delivery o.kind && (o.issue == issue)) (moved_of rs o.number), taken_parts rs issue orders, sum_by-cons)
  where
    by : (b : Bool) (m : Option ℕ) → (if b then unwrap_or m o.asked else 0) ≡ (if b then unwrap_or m 0 else 0) + (if b then (if is_some m then 0 else o.asked) else 0)
    by b m = grind arith

-- these are the shares that are out or were delivered
pub taken_whole : (book : Orders) (issue : ℕ) → sum_by (kind_part Delivery issue (taken_part book.replies)) book.orders ≡ delivered_of book issue + out_of book issue
unfolding delivered_of out_of
taken_whole book issue = taken_parts book.replies issue book.orders

-- ---- with more orders

-- new orders have moved nothing, whichever orders are counted
pub moved_with_asks : (counted : Order → Bool) (book : Orders) (cycle : Option CycleId) (asks : List Ask) → IsOrderBook book
    → sum_by (λ (o : Order). if counted o then moved_part book.replies o else 0) (with_asks book cycle asks).orders ≡ sum_by (λ (o : Order). if counted o then moved_part book.replies o else 0) book.orders
moved_with_asks counted book cycle asks lawful =
    let next : ℕ = length book.orders + 1 in
    let new = moved_new counted next cycle asks book.replies (λ j le. moved_of_above book.orders book.replies j lawful.numbered lawful.known (omega arith)) in
    omega (arith, sum_by-append (λ (o : Order). if counted o then moved_part book.replies o else 0) book.orders (numbered next cycle asks), new)

-- so what covers brought stays
pub covered_ordered : (book : Orders) (cycle : Option CycleId) (asks : List Ask) (issue : ℕ) → IsOrderBook book → covered_of (with_asks book cycle asks) issue ≡ covered_of book issue
unfolding covered_of
covered_ordered book cycle asks issue lawful = moved_with_asks (λ (o : Order). is_cover o.kind && (o.issue == issue)) book cycle asks lawful

-- and what deliveries took
pub delivered_ordered : (book : Orders) (cycle : Option CycleId) (asks : List Ask) (issue : ℕ) → IsOrderBook book → delivered_of (with_asks book cycle asks) issue ≡ delivered_of book issue
unfolding delivered_of
delivered_ordered book cycle asks issue lawful = moved_with_asks (λ (o : Order). is_delivery o.kind && (o.issue == issue)) book cycle asks lawful

-- those of them that are deliveries ask of the pool
numbered_out : (n : ℕ) (cycle : Option CycleId) (asks : List Ask) (issue : ℕ)
    → sum_by (λ (o : Order). if is_delivery o.kind && (o.issue == issue) then o.asked else 0) (numbered n cycle asks) ≡ asked_of_pool issue asks
unfolding asked_of_pool
numbered_out n cycle [] issue = refl
numbered_out n cycle (a ∷ asks) issue = omega (arith, numbered_out (suc n) cycle asks issue, sum_by-cons)

-- so more is out by what they ask for
pub out_ordered : (book : Orders) (cycle : Option CycleId) (asks : List Ask) (issue : ℕ) → IsOrderBook book → out_of (with_asks book cycle asks) issue ≡ out_of book issue + asked_of_pool issue asks
unfolding out_of
out_ordered book cycle asks issue lawful =
    let next : ℕ = length book.orders + 1 in
    let none : (j : ℕ) → next ≤ j → moved_of book.replies j ≡ None = λ j le. moved_of_above book.orders book.replies j lawful.numbered lawful.known (omega arith) in
    let new = open_new (λ (o : Order). is_delivery o.kind && (o.issue == issue)) next cycle asks book.replies none in
    omega (arith, sum_by-append (kind_part Delivery issue (open_part book.replies)) book.orders (numbered next cycle asks), new, numbered_out next cycle asks issue)

-- covers deliver nothing
pub covers_deliver_nothing : (asks : List Ask) (issue : ℕ) → All (λ (a : Ask). a.kind ≡ Cover) asks → asked_of_pool issue asks ≡ 0
unfolding asked_of_pool
covers_deliver_nothing [] issue all = refl
covers_deliver_nothing (a ∷ asks) issue all =
    rw (All-head (λ (b : Ask). b.kind ≡ Cover) a asks all, covers_deliver_nothing asks issue (All-tail (λ (b : Ask). b.kind ≡ Cover) a asks all))

-- nor do deliveries of another issue
pub others_deliver_nothing : (asks : List Ask) (issue other : ℕ) → (issue == other) ≡ false → All (λ (a : Ask). a.issue ≡ other) asks → asked_of_pool issue asks ≡ 0
unfolding asked_of_pool
others_deliver_nothing [] issue other differ all = refl
others_deliver_nothing (a ∷ asks) issue other differ all =
    let its = not_issue a.issue issue other differ (All-head (λ (b : Ask). b.issue ≡ other) a asks all) in
    rw (and_right (is_delivery a.kind) (a.issue == issue) its, others_deliver_nothing asks issue other differ (All-tail (λ (b : Ask). b.issue ≡ other) a asks all))

-- deliveries take no more than all asks ask for
pub delivered_most : (asks : List Ask) (issue : ℕ) → asked_of_pool issue asks ≤ sum_by (λ (a : Ask). a.asked) asks
unfolding asked_of_pool
delivered_most [] issue = omega arith
delivered_most (a ∷ asks) issue = omega (arith, at_most (is_delivery a.kind && (a.issue == issue)) a.asked, delivered_most asks issue, sum_by-cons)

-- ---- with one more confirmation

-- a first confirmation raises what covers brought, or leaves it
pub covered_confirmed : (book : Orders) (r : Reply) (issue : ℕ) → IsOrderBook book → IsTaken book r → covered_of book issue ≤ covered_of (with_reply book r) issue
unfolding covered_of
covered_confirmed book r issue lawful taken =
    omega (arith, moved_with_reply (λ (o : Order). is_cover o.kind && (o.issue == issue)) book.orders book.replies r taken.order lawful.numbered taken.found taken.first)

-- and lowers what deliveries take, or leaves it
pub taken_confirmed : (book : Orders) (r : Reply) (issue : ℕ) → IsOrderBook book → IsTaken book r
    → delivered_of (with_reply book r) issue + out_of (with_reply book r) issue ≤ delivered_of book issue + out_of book issue
unfolding delivered_of out_of
taken_confirmed book r issue lawful taken =
    let counted : Order → Bool = λ o. is_delivery o.kind && (o.issue == issue) in
    let moved = moved_with_reply counted book.orders book.replies r taken.order lawful.numbered taken.found taken.first in
    let still = open_with_reply counted book.orders book.replies r taken.order lawful.numbered taken.found taken.first in
    omega (arith, moved, still, part (counted taken.order))
  where
    part : (b : Bool) → (if b then r.moved else 0) ≤ (if b then taken.order.asked else 0)
    part true = taken.within
    part false = omega arith

-- ---- with more records

-- the deliveries of an allocation are of its issue
pub allocation_issue : (b : Books) (a : Allocation) → Allows b (Allocate a) → All (λ (x : Ask). x.issue ≡ a.issue) (deliveries_in a)
allocation_issue b a allowed =
    All-weaker (λ (x : Ask). (x.kind ≡ Delivery) × (x.issue ≡ a.issue) × (x.asked ≤ want_in b.history b.orders x.member a.issue)) (λ (x : Ask). x.issue ≡ a.issue)
    (λ x its. its.1) (deliveries_in a) (deliveries_within a.issue a.poured (pool_tickets a.drawn) (λ m. want_in b.history b.orders m a.issue) allowed.within)

-- a record that is no allocation of the issue leaves its shares there
avail_more : (r : ClearRecord) (b : Books) (issue : ℕ) → IsOrderBook b.orders → Allows b r → IsQuiet issue r → avail_of b.orders issue ≤ avail_of (with_record r b).orders issue
avail_more (Cycle id) b issue ordered allowed quiet = absurd quiet
avail_more (Allocate a) b issue ordered allowed quiet =
    let asks : List Ask = deliveries_in a in
    let nothing = others_deliver_nothing asks issue a.issue quiet (allocation_issue b a allowed) in
    omega (arith, covered_ordered b.orders b.latest asks issue ordered, delivered_ordered b.orders b.latest asks issue ordered, out_ordered b.orders b.latest asks issue ordered, nothing)
avail_more (Confirm r) b issue ordered allowed quiet =
    let taken = taken_from_done b.orders r allowed in
    omega (arith, covered_confirmed b.orders r issue ordered taken, taken_confirmed b.orders r issue ordered taken)
avail_more _ b issue ordered allowed quiet = omega arith

-- while no lot of an issue closes, its shares stay there
pub avail_since : (later c : List ClearRecord) (issue : ℕ) → IsLawful (later ++ c) → AreQuiet issue later → avail_in c issue ≤ avail_in (later ++ c) issue
unfolding books_of
avail_since [] c issue lawful quiet = omega arith
avail_since (r ∷ later) c issue lawful quiet =
    let b : Books = books_of (later ++ c) in
    let one = avail_more r b issue (lawful_bounded (later ++ c) lawful.1).ordered lawful.0 quiet.0 in
    omega (arith, avail_since later c issue lawful.1 quiet.1, one)

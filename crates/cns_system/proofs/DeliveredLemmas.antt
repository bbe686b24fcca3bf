-- A new delivery moves all that it asks for: what covers brought, which the depository executed, is enough for it.
use Rattle.std.proofs.Common.{◌≡◌, ◌≤◌, ◌+◌, ◌∙◌, ℕ, Bool, true, false, List, [], ◌∷◌, Option, Some, None, ap, refl, subst, sym, arith}
use Rattle.std.proofs.Math.Nat.{min-le_left}
use Rattle.std.specs.Prelude.{◌==◌, ◌&&◌, All, find, option_map, sum_by, unwrap_or, if◌then◌else◌}
use Rattle.std.proofs.lemmas.Bool.{cond-false, cond-true, eq-eqb, eqb-true, ne_eqb}
use Rattle.std.proofs.lemmas.List.Elements.{All-cons, All-head, All-tail, All-weaker}
use Rattle.std.proofs.lemmas.List.Sums.{sum_by-cons}
use Rattle.std.proofs.lemmas.Option.{none-some, same_Some}
use Rattle.cns_movements.specs.Book.{Orders}
use Rattle.cns_allocate.proofs.TurnLemmas.{find-All, find-passes}
use Rattle.cns_movements.specs.Order.{AgreesWith, IsNumbered, is_cover, is_delivery, moved_of, moved_part, order_of}
use Rattle.cns_movements.specs.declared.order.MoveKind.{MoveKind}
use Rattle.cns_movements.specs.declared.order.MoveKind.TheVariants.{Cover, Delivery}
use Rattle.cns_movements.specs.declared.order.Order.{Order}
use Rattle.cns_movements.specs.declared.order.Reply.{Reply}
use Rattle.cns_movements.proofs.OrderLemmas.{order_of_number, sum_but_one, sum_le_found}
use Rattle.cns_movements.proofs.AgreeLemmas.{agree_fields, agrees-refl}
use Rattle.cns_movements.proofs.ReplyLemmas.{nothing_either}
use Rattle.cns_trades.specs.declared.opening.Opening.{Opening}
use Rattle.cns_records.specs.declared.clear_record.ClearRecord.{ClearRecord}
use Rattle.cns_records.specs.declared.dep_record.DepRecord.{DepRecord}
use Rattle.cns_clearing.specs.Books.{IsLawful, order_book_of}
use Rattle.cns_clearing.specs.Pools.{covered_of, delivered_of, kind_part, out_of}
use Rattle.cns_clearing.proofs.PoolLemmas.{taken_part, taken_whole}
use Rattle.cns_clearing.proofs.BooksLemmas.{lawful_bounded}
use Rattle.cns_clearing.proofs.TotalLemmas.{taken_covered}
use Rattle.cns_depository.specs.declared.account.Account.{Account}
use Rattle.cns_depository.specs.declared.account.Account.TheVariants.{Cns}
use Rattle.cns_depository.specs.declared.movement.Movement.{Movement}
use Rattle.cns_depository.specs.Account.{giver}
use Rattle.cns_depository.specs.Stock.{IsLawfulDepot, balance_of, executed_of, movement, movement_of}
use Rattle.cns_depository.proofs.ExecutedLemmas.{AreOnce, covers_moved, deliveries_moved, lawful_once, moved_in_cns, moved_out_cns, moved_where}
use Rattle.cns_system.specs.Accord.{IsAsOrdered}
use Rattle.cns_system.specs.Agreement.{IsExecuted}
use Rattle.cns_system.proofs.AccordLemmas.{executed_stays}

-- ---- the movement of a number

-- the movement of a number is of that number, and known
pub movement_known : (orders : List Order) (movements : List Movement) (n : ℕ) (m : Movement) → All (IsAsOrdered orders) movements → movement_of movements n ≡ Some m
    → IsAsOrdered orders m × (m.order.number ≡ n)
movement_known orders movements n m all found =
    let of_number : Movement → Bool = λ x. x.order.number == n in
    (find-All (IsAsOrdered orders) of_number movements m all found, eqb-true m.order.number n (find-passes of_number movements m found))

-- what is confirmed of a movement is what was executed of it
pub confirmed_as : (movements : List Movement) (replies : List Reply) (n moved : ℕ) → All (IsExecuted movements) replies → moved_of replies n ≡ Some moved
    → (m : Movement) × (movement_of movements n ≡ Some m) × (m.moved ≡ moved)
confirmed_as movements replies n moved all found = by (find of_number replies) refl found
  where
    of_number : Reply → Bool
    of_number r = r.number == n

    by : (o : Option Reply) → find of_number replies ≡ o → option_map (λ (r : Reply). r.moved) o ≡ Some moved → (m : Movement) × (movement_of movements n ≡ Some m) × (m.moved ≡ moved)
    by None at is = absurd (none-some moved is)
    by (Some r) at is =
        let done = find-All (IsExecuted movements) of_number replies r all at in
        let number : r.number ≡ n = eqb-true r.number n (find-passes of_number replies r at) in
        (done.0, subst (λ (k : ℕ). movement_of movements k ≡ Some done.0) number done.1, done.2 ∙ same_Some r.moved moved is)

-- the newest movement is found under its own number, and under another number the older ones decide
pub movement_of_same : (m : Movement) (movements : List Movement) → movement_of (m ∷ movements) m.order.number ≡ Some m
movement_of_same m movements =
    let n : ℕ = m.order.number in
    cond-true (n == n) (Some m) (movement_of movements n) (eq-eqb n n refl)

movement_of_other : (m : Movement) (movements : List Movement) (n : ℕ) → (m.order.number ≡ n → ⊥) → movement_of (m ∷ movements) n ≡ movement_of movements n
movement_of_other m movements n differ = cond-false (m.order.number == n) (Some m) (movement_of movements n) (ne_eqb m.order.number n differ)

-- ---- sums over executed movements, and over the orders that they executed

-- what was executed of an order, and nothing where it was not executed
abbrev pub executed_part : List Movement → Order → ℕ
executed_part movements o = unwrap_or (option_map (λ (m : Movement). m.moved) (movement_of movements o.number)) 0

abbrev pub executed_where : (Order → Bool) → List Movement → Order → ℕ
executed_where test movements o = if test o then executed_part movements o else 0

-- of no movements nothing is executed
none_executed : (test : Order → Bool) (orders : List Order) → sum_by (executed_where test []) orders ≡ 0
none_executed test [] = refl
none_executed test (o ∷ orders) =
    omega (arith, sum_by-cons (executed_where test []) o orders, nothing_either (test o) 0 refl, none_executed test orders)

-- what the movements moved is what was executed of the orders, each of which has one movement at most, where a test counts orders that agree
-- alike
pub executed_sum : (test : Order → Bool) → ((a b : Order) → AgreesWith a b → test a ≡ test b)
    → (orders : List Order) (movements : List Movement) → IsNumbered 1 orders → All (IsAsOrdered orders) movements → AreOnce movements
    → sum_by (moved_where test) movements ≡ sum_by (executed_where test movements) orders
executed_sum test alike orders [] numbered known once = sym (none_executed test orders)
executed_sum test alike orders (m ∷ ms) numbered known once =
    let its = (All-head (IsAsOrdered orders) m ms known).0.0 in
    let o : Order = its.0 in
    let n : ℕ = m.order.number in
    let number : o.number ≡ n = order_of_number orders n o its.1 in
    let term : Bool → Option Movement → ℕ = λ b r. if b then unwrap_or (option_map (λ (m : Movement). m.moved) r) 0 else 0 in
    let others : (x : Order) → (x.number ≡ n → ⊥) → executed_where test (m ∷ ms) x ≡ executed_where test ms x =
    λ x differ. ap (term (test x)) (movement_of_other m ms x.number (λ same. differ (sym same))) in
    let one = sum_but_one (executed_where test (m ∷ ms)) (executed_where test ms) orders 1 n o numbered its.1 others in
    let now : executed_where test (m ∷ ms) o ≡ moved_where test m =
    ap (term (test o)) (ap (movement_of (m ∷ ms)) number ∙ movement_of_same m ms) ∙ ap (λ (b : Bool). if b then m.moved else 0) (sym (alike m.order o its.2)) in
    let before : executed_where test ms o ≡ 0 = ap (term (test o)) (ap (movement_of ms) number ∙ once.0) ∙ nothing_either (test o) 0 refl in
    let rest = executed_sum test alike orders ms numbered (All-tail (IsAsOrdered orders) m ms known) once.1 in
    omega (arith, sum_by-cons (moved_where test) m ms, one, now, before, rest)

-- ---- executed movements beside the clearing node's book

-- a smaller part is a smaller term, whether it is counted or not
part_le : (b : Bool) (x y : ℕ) → x ≤ y → (if b then x else 0) ≤ (if b then y else 0)
part_le true x y le = le
part_le false x y le = omega arith

module _ (book : Orders) (movements : List Movement) (issue : ℕ) (numbered : IsNumbered 1 book.orders) (known : All (IsAsOrdered book.orders) movements) (once : AreOnce movements)
    (executed : All (IsExecuted movements) book.replies) where
  -- what is confirmed of an order was executed
  confirmed_executed : (o : Order) → moved_part book.replies o ≤ executed_part movements o
  confirmed_executed o = by (moved_of book.replies o.number) refl
    where
      by : (m : Option ℕ) → moved_of book.replies o.number ≡ m → unwrap_or m 0 ≤ executed_part movements o
      by None is = omega arith
      by (Some m) is =
          let done = confirmed_as movements book.replies o.number m executed is in
          let same : executed_part movements o ≡ done.0.moved = ap (λ (r : Option Movement). unwrap_or (option_map (λ (m : Movement). m.moved) r) 0) done.1 in
          omega (arith, same, done.2)

  -- and what was executed of it is no more than it takes of the pool
  executed_taken : (o : Order) → order_of book.orders o.number ≡ Some o → executed_part movements o ≤ taken_part book.replies o
  executed_taken o found = by (movement_of movements o.number) refl (moved_of book.replies o.number) refl
    where
      by : (r : Option Movement) → movement_of movements o.number ≡ r → (m : Option ℕ) → moved_of book.replies o.number ≡ m
          → unwrap_or (option_map (λ (m : Movement). m.moved) r) 0 ≤ unwrap_or m o.asked
      by None none m is = omega arith
      by (Some e) done None is =
          let its = movement_known book.orders movements o.number e known done in
          let of_number = its.0.0.0 in
          let same : of_number.0 ≡ o = same_Some of_number.0 o (sym of_number.1 ∙ ap (order_of book.orders) its.1 ∙ found) in
          let asked : e.order.asked ≡ o.asked = (agree_fields e.order of_number.0 of_number.2).asked ∙ ap (λ (x : Order). x.asked) same in
          omega (arith, its.0.1, asked)
      by (Some e) done (Some m) is =
          let confirmed = confirmed_as movements book.replies o.number m executed is in
          let same : e.moved ≡ confirmed.0.moved = ap (λ (m : Movement). m.moved) (same_Some e confirmed.0 (sym done ∙ confirmed.1)) in
          omega (arith, same, confirmed.2)

  -- executed covers brought at least what confirmed ones did
  pub covers_executed : covered_of book issue ≤ covers_moved movements issue
  unfolding covered_of
  covers_executed =
      let test : Order → Bool = λ o. is_cover o.kind && (o.issue == issue) in
      let all = executed_sum test (λ a b agree. let f = agree_fields a b agree in rw (f.kind, f.issue) refl) book.orders movements numbered known once in
      let less =
      sum_le_found (kind_part Cover issue (moved_part book.replies)) (executed_where test movements) book.orders 1 numbered
      (λ o found. part_le (test o) (moved_part book.replies o) (executed_part movements o) (confirmed_executed o)) in
      omega (arith, all, less)

  -- executed deliveries took at most what those of the book moved, or still ask for
  deliveries_executed : deliveries_moved movements issue ≤ delivered_of book issue + out_of book issue
  deliveries_executed =
      let test : Order → Bool = λ o. is_delivery o.kind && (o.issue == issue) in
      let all = executed_sum test (λ a b agree. let f = agree_fields a b agree in rw (f.kind, f.issue) refl) book.orders movements numbered known once in
      let less =
      sum_le_found (executed_where test movements) (kind_part Delivery issue (taken_part book.replies)) book.orders 1 numbered
      (λ o found. part_le (test o) (executed_part movements o) (taken_part book.replies o) (executed_taken o found)) in
      omega (arith, all, less, taken_whole book issue)

-- ---- a new delivery

-- what one more delivery takes out of the CNS account
delivery_out : (o : Order) (movements : List Movement) → o.kind ≡ Delivery
    → deliveries_moved (record { order = o; moved = o.asked } ∷ movements) o.issue ≡ o.asked + deliveries_moved movements o.issue
delivery_out o movements delivers =
    let m : Movement = record { order = o; moved = o.asked } in
    let test : Order → Bool = λ x. is_delivery x.kind && (x.issue == o.issue) in
    let kind : is_delivery o.kind ≡ true = ap is_delivery delivers in
    let issue : (o.issue == o.issue) ≡ true = eq-eqb o.issue o.issue refl in
    let here : moved_where test m ≡ o.asked = rw (kind, issue) refl in
    omega (arith, sum_by-cons (moved_where test) m movements, here)

-- the CNS account has what a delivery asks for that was not executed: with it too deliveries take no more than covers brought, and
-- what covers brought was executed
delivery_there : (openings : List Opening) (c : List ClearRecord) (p : List DepRecord) (o : Order) → IsLawful c → IsLawfulDepot openings p
    → All (IsAsOrdered (order_book_of c).orders) (executed_of p) → All (IsExecuted (executed_of p)) (order_book_of c).replies → order_of (order_book_of c).orders o.number ≡ Some o
    → movement_of (executed_of p) o.number ≡ None → o.kind ≡ Delivery → o.asked ≤ balance_of openings p Cns o.issue
unfolding balance_of
delivery_there openings c p o lawful stock_lawful known executed found fresh delivers =
    let book : Orders = order_book_of c in
    let movements : List Movement = executed_of p in
    let m : Movement = record { order = o; moved = o.asked } in
    let numbered : IsNumbered 1 book.orders = (lawful_bounded c lawful).ordered.numbered in
    let once : AreOnce movements = lawful_once openings p stock_lawful in
    let its : IsAsOrdered book.orders m = (((o, found, agrees-refl o), λ is. refl), omega arith) in
    let more : All (IsExecuted (m ∷ movements)) book.replies =
    All-weaker (IsExecuted movements) (IsExecuted (m ∷ movements)) (λ r done. executed_stays (Some m) movements r fresh done) book.replies executed in
    let brought = covers_executed book movements o.issue numbered known once executed in
    let took = deliveries_executed book (m ∷ movements) o.issue numbered (All-cons (IsAsOrdered book.orders) m movements its known) (fresh, once) more in
    omega (arith, brought, took, delivery_out o movements delivers, moved_in_cns p o.issue, moved_out_cns p o.issue, taken_covered c o.issue lawful)

-- so it moves all that it asks for
pub delivery_in_full : (openings : List Opening) (c : List ClearRecord) (p : List DepRecord) (o : Order) → IsLawful c → IsLawfulDepot openings p
    → All (IsAsOrdered (order_book_of c).orders) (executed_of p) → All (IsExecuted (executed_of p)) (order_book_of c).replies → order_of (order_book_of c).orders o.number ≡ Some o
    → movement_of (executed_of p) o.number ≡ None → o.kind ≡ Delivery → (movement openings p o).moved ≡ o.asked
delivery_in_full openings c p o lawful stock_lawful known executed found fresh delivers =
    let gives : giver o ≡ Cns = ap (λ (k : MoveKind). giver (record o { kind = k })) delivers in
    let there = delivery_there openings c p o lawful stock_lawful known executed found fresh delivers in
    let enough : o.asked ≤ balance_of openings p (giver o) o.issue = subst (λ (a : Account). o.asked ≤ balance_of openings p a o.issue) (sym gives) there in
    omega (arith, enough)

-- and the movement of a new order is known
pub next_known : (openings : List Opening) (c : List ClearRecord) (p : List DepRecord) (o : Order) → IsLawful c → IsLawfulDepot openings p
    → All (IsAsOrdered (order_book_of c).orders) (executed_of p) → All (IsExecuted (executed_of p)) (order_book_of c).replies → order_of (order_book_of c).orders o.number ≡ Some o
    → movement_of (executed_of p) o.number ≡ None → IsAsOrdered (order_book_of c).orders (movement openings p o)
next_known openings c p o lawful stock_lawful known executed found fresh =
    (((o, found, agrees-refl o), λ delivers. delivery_in_full openings c p o lawful stock_lawful known executed found fresh delivers), min-le_left o.asked _)

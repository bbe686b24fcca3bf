-- What an event may leave is in accord.
use Rattle.std.proofs.Common.{◌≡◌, ◌-◌, ◌++◌, [], ◌∷◌, ℕ, Bool, true, false, List, Option, Some, None, refl, sym, subst, inl, inr}
use Rattle.std.specs.Prelude.{◌==◌, All, slice_get, if◌then◌else◌}
use Rattle.std.specs.Option.{option_flatten}
use Rattle.std.proofs.lemmas.Option.{none-some, same_Some}
use Rattle.cns_movements.specs.Order.{order_of}
use Rattle.cns_movements.specs.declared.order.Order.{Order}
use Rattle.cns_movements.specs.declared.order.Reply.{Reply}
use Rattle.cns_movements.proofs.OrderLemmas.{order_of_number}
use Rattle.cns_records.specs.declared.clear_record.ClearRecord.{ClearRecord}
use Rattle.cns_records.specs.declared.dep_record.DepRecord.{DepRecord}
use Rattle.cns_clearing.specs.Books.{IsLawful, order_book_of}
use Rattle.cns_depository.specs.Answers.{reply_to}
use Rattle.cns_depository.specs.Stock.{IsLawfulDepot, executed_of, execution, movement_of}
use Rattle.cns_depository.specs.declared.movement.Movement.{Movement}
use Rattle.cns_system.specs.Accord.{Accord, FitsOrders, FitsStock, SpellsOrder, SpellsReply}
use Rattle.cns_system.specs.Agreement.{IsExecuted}
use Rattle.cns_system.specs.Happens.{with_reply_put}
use Rattle.cns_system.specs.Lot.{LotState}
use Rattle.cns_system.specs.Shown.{Shown, clear_added, clear_failed, depot_added, depot_failed}
use Rattle.cns_system.proofs.AccordLemmas.{all_found, clear_stays, depot_stays, executed_more, grown, order_put, reply_put}
use Rattle.cns_system.proofs.DeliveredLemmas.{movement_of_same, next_known}
use Rattle.cns_system.proofs.EventHolds.{Arrives, next_movement}
use Rattle.cns_system.proofs.HonestLemmas.{AreBack}

-- what arrives in a packet is what the packets spell
pub spelt_in : {A : Type 0} (P : Option A → Type 0) (packets : List (Option A)) (packet : ℕ) (a : A) → All P packets → Arrives packets packet a → P (Some a)
spelt_in P packets packet a all is = by (packet == 0) is
  where
    of : (found : Option (Option _)) → slice_get packets (packet - 1) ≡ found → option_flatten found ≡ Some a → P (Some a)
    of None at is = absurd (none-some a is)
    of (Some o) at is = subst P is (all_found P packets (packet - 1) o all at)

    by : (none : Bool) → option_flatten (if none then None else slice_get packets (packet - 1)) ≡ Some a → P (Some a)
    by true is = absurd (none-some a is)
    by false is = of (slice_get packets (packet - 1)) refl is

-- what is so of a record is so of the undecided one where that is it, and anything is where there is none
only : {R : Type 0} (P : R → Type 0) (r : R) → P r → (u : R) → Some r ≡ Some u → P u
only P r here u is = subst P (same_Some r u is) here

none : {R : Type 0} (P : R → Type 0) (u : R) → None ≡ Some u → P u
none P u is = absurd (none-some u is)

module _ (w : Shown) (a : Accord w) where
  abbrev Fits : ClearRecord → Type 0
  Fits r = FitsStock (executed_of w.depot.records) r

  abbrev FitsDepot : DepRecord → Type 0
  FitsDepot e = FitsOrders (order_book_of w.clear.records).orders (executed_of w.depot.records) e

  -- a record of the clearing node is added that fits what was executed, or its commit fails
  pub adds_accord : (r : ClearRecord) (lots : List LotState) → w.clear.down ≡ false → Fits r → Accord (record (clear_added r w) { lots = lots }) × Accord (clear_failed r w)
  adds_accord r lots up fits = (
    grown w a r (clear_added r w).open_lots lots fits (a.clear_up up),
    clear_stays w a (Some r) true w.open_lots w.lots (only Fits r fits) (λ e. absurd (cc e)),
  )

  -- a record of the depository likewise
  pub executes_accord : (e : DepRecord) → w.depot.down ≡ false → FitsDepot e → Accord (depot_added e w) × Accord (depot_failed e w)
  executes_accord e up fits = (executed_more w a e fits (a.depot_up up), depot_stays w a (Some e) true (only FitsDepot e fits) (λ e. absurd (cc e)))

  -- a reply that arrives is of a movement that was executed, and an order that arrives is found under its number
  pub replied : (packet : ℕ) (r : Reply) → Arrives w.reply_packets packet r → IsExecuted (executed_of w.depot.records) r
  replied packet r at = spelt_in (SpellsReply (executed_of w.depot.records)) w.reply_packets packet r a.answered at

  pub ordered : (packet : ℕ) (o : Order) → Arrives w.order_packets packet o → order_of (order_book_of w.clear.records).orders o.number ≡ Some o
  ordered packet o at = spelt_in (SpellsOrder (order_book_of w.clear.records).orders) w.order_packets packet o a.sent at

  -- an order is put on the link
  pub sends_accord : (number : ℕ) (o : Order) → order_of (order_book_of w.clear.records).orders number ≡ Some o → Accord (record w { order_packets = w.order_packets ++ Some o ∷ [] })
  sends_accord number o found =
      let orders : List Order = (order_book_of w.clear.records).orders in
      order_put w a o (subst (λ (n : ℕ). order_of orders n ≡ Some o) (sym (order_of_number orders number o found)) found)

  -- a new order that arrives is executed, or its commit fails
  pub order_accord : IsLawful w.clear.records → IsLawfulDepot w.openings w.depot.records → (packet : ℕ) (o : Order) → Arrives w.order_packets packet o → w.depot.down ≡ false
      → movement_of (executed_of w.depot.records) o.number ≡ None
      → let m = next_movement w o in
      Accord (with_reply_put (reply_to m) (depot_added (execution m) w)) × Accord (depot_failed (execution m) w)
  order_accord lawful stock packet o at up fresh =
      let m : Movement = next_movement w o in
      let left = executes_accord (execution m) up (next_known w.openings w.clear.records w.depot.records o lawful stock a.executed a.confirmed (ordered packet o at) fresh, fresh) in
      (reply_put (depot_added (execution m) w) left.0 (reply_to m) (m, movement_of_same m (executed_of w.depot.records), refl), left.1)

  -- a node is restarted: its records are back, and at most the one besides that was undecided; or they were not read
  pub clear_back : (c : List ClearRecord) (lots : List LotState) → AreBack w.clear.tried w.clear.records c
      → Accord (record w { clear = record { records = c; tried = None; down = false }; open_lots = []; lots = lots })
  clear_back c lots back = by back
    where
      up : Accord (record w { clear = record w.clear { tried = None; down = false }; open_lots = []; lots = lots })
      up = clear_stays w a None false [] lots (none Fits) (λ e. refl)

      by : AreBack w.clear.tried w.clear.records c → Accord (record w { clear = record { records = c; tried = None; down = false }; open_lots = []; lots = lots })
      by (inl same) = rw same up
      by (inr (r, tried, is)) = rw is (grown _ up r [] lots (a.clear_tried r tried) refl)

  pub clear_down : (lots : List LotState) → Accord (record w { clear = record w.clear { down = true }; open_lots = []; lots = lots })
  clear_down lots = clear_stays w a w.clear.tried true [] lots a.clear_tried (λ e. absurd (cc e))

  pub depot_back : (p : List DepRecord) → AreBack w.depot.tried w.depot.records p → Accord (record w { depot = record { records = p; tried = None; down = false } })
  depot_back p back = by back
    where
      up : Accord (record w { depot = record w.depot { tried = None; down = false } })
      up = depot_stays w a None false (none FitsDepot) (λ e. refl)

      by : AreBack w.depot.tried w.depot.records p → Accord (record w { depot = record { records = p; tried = None; down = false } })
      by (inl same) = rw same up
      by (inr (e, tried, is)) = rw is (executed_more _ up e (a.depot_tried e tried) refl)

  pub depot_down : Accord (record w { depot = record w.depot { down = true } })
  depot_down = depot_stays w a w.depot.tried true a.depot_tried (λ e. absurd (cc e))

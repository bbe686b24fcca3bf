-- Each event keeps the two nodes and the link in accord.
use Rattle.std.proofs.Common.{◌≡◌, ◌∙◌, ℕ, Bool, true, false, List, [], ◌∷◌, ◌++◌, Option, Some, None, ap, cond, refl, subst, sym}
use Rattle.std.specs.Prelude.{◌==◌, All, IfSome, slice_get}
use Rattle.std.specs.List.{cons_option}
use Rattle.std.proofs.lemmas.Bool.{eqb-true}
use Rattle.std.proofs.lemmas.List.Elements.{All-cons, All-nil, All-push, All-weaker}
use Rattle.std.proofs.lemmas.Option.{IfSome_then, get_or_from_slice_get, none-some, slice_get_within}
use Rattle.cns_movements.specs.Order.{order_of}
use Rattle.cns_movements.specs.declared.order.Order.{Order}
use Rattle.cns_movements.specs.declared.order.Reply.{Reply}
use Rattle.cns_movements.proofs.OrderLemmas.{order_of-append}
use Rattle.cns_records.specs.declared.clear_record.ClearRecord.{ClearRecord}
use Rattle.cns_records.specs.declared.clear_record.ClearRecord.TheVariants as entry
use Rattle.cns_records.specs.declared.dep_record.DepRecord.{DepRecord}
use Rattle.cns_clearing.specs.Books.{books_of, order_book_of}
use Rattle.cns_clearing.specs.declared.lot.Lot.{Lot}
use Rattle.cns_journal.specs.Keeper.{KeeperState}
use Rattle.cns_journal.specs.RecordLog.{LogState}
use Rattle.cns_trades.specs.declared.opening.Opening.{Opening}
use Rattle.cns_depository.specs.declared.movement.Movement.{Movement}
use Rattle.cns_depository.specs.Stock.{executed_in, executed_of, movement_of}
use Rattle.cns_depository.proofs.ExecutedLemmas.{IsWithin, lawful_within}
use Rattle.cns_system.specs.Accord.{Accord, FitsOrders, FitsStock, IsInAccord, IsAsOrdered, SpellsOrder, SpellsReply}
use Rattle.cns_system.specs.Agreement.{IsExecuted, IsOrdered}
use Rattle.cns_system.specs.Start.{IsStarted}
use Rattle.cns_system.specs.Happens.{with_reply_put}
use Rattle.cns_system.specs.Lot.{LotState}
use Rattle.cns_system.specs.Shown.{Shown, depot_added}
use Rattle.cns_system.specs.World.{World}

-- ---- what grows

-- an order stays the order of its number as records are added
pub order_stays : (u : ClearRecord) (c : List ClearRecord) (n : ℕ) (o : Order) → order_of (order_book_of c).orders n ≡ Some o → order_of (order_book_of (u ∷ c)).orders n ≡ Some o
unfolding books_of
order_stays (entry.Cycle id) c n o found = order_of-append (order_book_of c).orders _ n o found
order_stays (entry.Allocate a) c n o found = order_of-append (order_book_of c).orders _ n o found
order_stays _ c n o found = found

-- a movement stays that of its order
ordered_stays : (u : ClearRecord) (c : List ClearRecord) (m : Movement) → IsOrdered (order_book_of c).orders m → IsOrdered (order_book_of (u ∷ c)).orders m
ordered_stays u c m ordered = ((ordered.0.0, order_stays u c m.order.number ordered.0.0 ordered.0.1, ordered.0.2), ordered.1)

known_stays : (u : ClearRecord) (c : List ClearRecord) (m : Movement) → IsAsOrdered (order_book_of c).orders m → IsAsOrdered (order_book_of (u ∷ c)).orders m
known_stays u c m known = (ordered_stays u c m known.0, known.1)

-- a record of the depository stays one that fits the orders
orders_fit_stays : (u : ClearRecord) (c : List ClearRecord) (movements : List Movement) (e : DepRecord) → FitsOrders (order_book_of c).orders movements e
    → FitsOrders (order_book_of (u ∷ c)).orders movements e
orders_fit_stays u c movements e fits = IfSome_then (executed_in e) fits (λ m its. (known_stays u c m its.0, its.1))

-- no movement of the number of this one was executed
abbrev pub IsNew : List Movement → Option Movement → Type 0
IsNew movements x = IfSome x (λ (m : Movement). movement_of movements m.order.number ≡ None)

-- a movement stays executed as one of another number is executed, or none is
pub executed_stays : (x : Option Movement) (movements : List Movement) (r : Reply) → IsNew movements x → IsExecuted movements r → IsExecuted (cons_option x movements) r
executed_stays None movements r fresh done = done
executed_stays (Some m) movements r fresh done = (done.0, by (m.order.number == r.number) refl, done.2)
  where
    by : (b : Bool) → (m.order.number == r.number) ≡ b → cond b (Some m) (movement_of movements r.number) ≡ Some done.0
    by true same = absurd (none-some done.0 (sym fresh ∙ ap (movement_of movements) (eqb-true m.order.number r.number same) ∙ done.1))
    by false other = done.1

-- movements stay known as one that is known is executed, or none is
known_more : (orders : List Order) (x : Option Movement) (movements : List Movement) → IfSome x (IsAsOrdered orders) → All (IsAsOrdered orders) movements
    → All (IsAsOrdered orders) (cons_option x movements)
known_more orders None movements its all = all
known_more orders (Some m) movements its all = All-cons (IsAsOrdered orders) m movements its all

-- the confirmations of one more record were executed too
pub replies_fit : (u : ClearRecord) (c : List ClearRecord) (movements : List Movement) → FitsStock movements u → All (IsExecuted movements) (order_book_of c).replies
    → All (IsExecuted movements) (order_book_of (u ∷ c)).replies
unfolding books_of
replies_fit (entry.Confirm r) c movements fits all = All-cons (IsExecuted movements) r (order_book_of c).replies fits all
replies_fit _ c movements fits all = all

fits_stays : (x : Option Movement) (movements : List Movement) (u : ClearRecord) → IsNew movements x → FitsStock movements u → FitsStock (cons_option x movements) u
fits_stays x movements (entry.Confirm r) fresh fits = executed_stays x movements r fresh fits
fits_stays x movements _ fresh fits = tt

-- what is so of all is so of what is found in a place
pub all_found : {A : Type 0} (P : A → Type 0) (xs : List A) (k : ℕ) (x : A) → All P xs → slice_get xs k ≡ Some x → P x
all_found P xs k x all at = subst P (get_or_from_slice_get xs k x x at) (all k x (slice_get_within xs k x at))

-- a packet stays one of an order as records are added, and one of a reply as a movement of another number is executed
order_spelt_stays : (u : ClearRecord) (c : List ClearRecord) (packet : Option Order) → SpellsOrder (order_book_of c).orders packet → SpellsOrder (order_book_of (u ∷ c)).orders packet
order_spelt_stays u c packet is = IfSome_then packet is (λ o found. order_stays u c o.number o found)

reply_spelt_stays : (x : Option Movement) (movements : List Movement) (packet : Option Reply) → IsNew movements x → SpellsReply movements packet → SpellsReply (cons_option x movements) packet
reply_spelt_stays x movements packet fresh is = IfSome_then packet is (λ r done. executed_stays x movements r fresh done)

-- ---- what one node leaves

module _ (w : Shown) (a : Accord w) where
  -- the clearing node has a record more
  pub grown : (u : ClearRecord) (open_lots : List Lot) (lots : List LotState) → FitsStock (executed_of w.depot.records) u → w.clear.tried ≡ None
      → Accord (record w { clear = record w.clear { records = u ∷ w.clear.records }; open_lots = open_lots; lots = lots })
  grown u open_lots lots fits none =
      let movements : List Movement = executed_of w.depot.records in
      record {
        executed = All-weaker (IsAsOrdered (order_book_of w.clear.records).orders) (IsAsOrdered (order_book_of (u ∷ w.clear.records)).orders) (known_stays u w.clear.records) movements a.executed;
        confirmed = replies_fit u w.clear.records movements fits a.confirmed;
        sent = All-weaker (SpellsOrder (order_book_of w.clear.records).orders) (SpellsOrder (order_book_of (u ∷ w.clear.records)).orders) (order_spelt_stays u w.clear.records) w.order_packets a.sent;
        answered = a.answered;
        clear_tried = λ v tried. absurd (none-some v (sym none ∙ tried));
        depot_tried = λ e tried. orders_fit_stays u w.clear.records movements e (a.depot_tried e tried);
        clear_up = λ up. none;
        depot_up = a.depot_up;
      }

  -- it is up or down, and this record is undecided there
  pub clear_stays : (tried : Option ClearRecord) (down : Bool) (open_lots : List Lot) (lots : List LotState) → ((u : ClearRecord) → tried ≡ Some u → FitsStock (executed_of w.depot.records) u)
      → (down ≡ false → tried ≡ None) → Accord (record w { clear = record w.clear { tried = tried; down = down }; open_lots = open_lots; lots = lots })
  clear_stays tried down open_lots lots fits up = assumption

  -- the depository likewise
  pub executed_more : (e : DepRecord) → FitsOrders (order_book_of w.clear.records).orders (executed_of w.depot.records) e → w.depot.tried ≡ None → Accord (depot_added e w)
  executed_more e fits none =
      let known_orders : List Order = (order_book_of w.clear.records).orders in
      let movements : List Movement = executed_of w.depot.records in
      let x : Option Movement = executed_in e in
      let fresh : IsNew movements x = IfSome_then x fits (λ m its. its.1) in
      record {
        executed = known_more known_orders x movements (IfSome_then x fits (λ m its. its.0)) a.executed;
        confirmed = All-weaker (IsExecuted movements) (IsExecuted (cons_option x movements)) (λ r done. executed_stays x movements r fresh done) (order_book_of w.clear.records).replies a.confirmed;
        sent = a.sent;
        answered = All-weaker (SpellsReply movements) (SpellsReply (cons_option x movements)) (λ packet is. reply_spelt_stays x movements packet fresh is) w.reply_packets a.answered;
        clear_tried = λ u tried. fits_stays x movements u fresh (a.clear_tried u tried);
        depot_tried = λ f tried. absurd (none-some f (sym none ∙ tried));
        clear_up = a.clear_up;
        depot_up = λ up. none;
      }

  pub depot_stays : (tried : Option DepRecord) (down : Bool) → ((e : DepRecord) → tried ≡ Some e → FitsOrders (order_book_of w.clear.records).orders (executed_of w.depot.records) e)
      → (down ≡ false → tried ≡ None) → Accord (record w { depot = record w.depot { tried = tried; down = down } })
  depot_stays tried down fits up = assumption

  -- a packet more on the link of orders, and one on that of replies
  pub order_put : (o : Order) → order_of (order_book_of w.clear.records).orders o.number ≡ Some o → Accord (record w { order_packets = w.order_packets ++ Some o ∷ [] })
  order_put o found = let sent = All-push (SpellsOrder (order_book_of w.clear.records).orders) w.order_packets (Some o) a.sent found in assumption

  pub reply_put : (r : Reply) → IsExecuted (executed_of w.depot.records) r → Accord (with_reply_put r w)
  reply_put r done = let answered = All-push (SpellsReply (executed_of w.depot.records)) w.reply_packets (Some r) a.answered done in assumption

-- executed movements are known where each is that of the order of its number, and moved no more than that asks for
known_all : (orders : List Order) (movements : List Movement) → All IsWithin movements → All (IsOrdered orders) movements → All (IsAsOrdered orders) movements
known_all orders movements within ordered = λ i m inside. (ordered i m inside, within i m inside)

-- nodes that were opened are in accord, as there is no packet yet
pub started : (openings : List Opening) (clear depot : KeeperState) (w : World) → IsStarted openings clear depot w → IsInAccord w
started openings clear depot w s =
    let none = ap (λ (l : LogState ClearRecord). l.tried) s.clear_opens.0.value in
    let stock_none = ap (λ (l : LogState DepRecord). l.tried) s.depot_opens.0.value in
    λ clear_honest depot_honest. record {
      executed = known_all (order_book_of w.clear.clear.log.records).orders (executed_of w.depot.log.records) (lawful_within openings w.depot.log.records s.depot_opens.0.allowed) s.agree.executed;
      confirmed = s.agree.confirmed;
      sent = rw s.order_packets (All-nil (SpellsOrder (order_book_of w.clear.clear.log.records).orders));
      answered = rw s.reply_packets (All-nil (SpellsReply (executed_of w.depot.log.records)));
      clear_tried = λ u tried. absurd (none-some u (sym none ∙ tried));
      depot_tried = λ e tried. absurd (none-some e (sym stock_none ∙ tried));
      clear_up = λ up. none;
      depot_up = λ up. stock_none;
    }

-- The headline, from the accord of both nodes and what each of them knows of its own records.
use Rattle.std.proofs.Common.{◌≡◌, ◌∙◌, ℕ, Bool, true, false, List, Option, Some, None, ap, subst, refl, arith}
use Rattle.std.proofs.lemmas.Option.{slice_get-map}
use Rattle.std.specs.Prelude.{◌&&◌, All, is_some, map, option_map, slice_get, unwrap_or, if◌then◌else◌}
use Rattle.cns_movements.specs.Order.{AgreesWith, IsNumbered, is_of, moved_of, moved_part, moved_sum}
use Rattle.cns_movements.specs.declared.order.MoveKind.{MoveKind}
use Rattle.cns_movements.specs.declared.order.MoveKind.TheVariants.{Cover, Delivery}
use Rattle.cns_movements.specs.declared.order.Order.{Order}
use Rattle.cns_movements.specs.Book.{Orders}
use Rattle.cns_movements.proofs.OrderLemmas.{sum_same_from}
use Rattle.cns_movements.proofs.AgreeLemmas.{agree_fields}
use Rattle.cns_clearing.specs.Books.{order_book_of}
use Rattle.cns_clearing.proofs.BooksLemmas.{lawful_bounded}
use Rattle.cns_clearing.proofs.PositionLemmas.{position_in_is}
use Rattle.cns_depository.specs.declared.movement.Movement.{Movement}
use Rattle.cns_depository.specs.Stock.{executed_of}
use Rattle.cns_depository.proofs.BalanceLemmas.{moved_out_covered}
use Rattle.cns_depository.proofs.ExecutedLemmas.{AreOnce, lawful_once, moved_in_cns}
use Rattle.cns_system.specs.Accord.{AreLawful, IsInAccord, IsAsOrdered, IsOrderPacket, IsReplyPacket, SpellsOrder, SpellsReply}
use Rattle.cns_system.specs.Agreement.{IsExecuted}
use Rattle.cns_system.specs.Headline.{IsAgreed, IsBalanced, confirmed_sum}
use Rattle.cns_system.specs.World.{AreFrames, IsOrderFrame, IsReplyFrame, World, order_spelt, reply_spelt}
use Rattle.cns_system.proofs.AccordLemmas.{all_found}
use Rattle.cns_system.proofs.DeliveredLemmas.{confirmed_as, covers_executed, executed_part, executed_sum, executed_where}

-- what confirmed orders moved is what the movements that both nodes hold moved
module _ (book : Orders) (movements : List Movement) (kind : MoveKind) (member issue : ℕ) (executed : All (IsExecuted movements) book.replies) where
  is_counted : Order → Bool
  is_counted o = is_of kind member issue o && is_some (moved_of book.replies o.number)

  -- of an order that is confirmed, what was executed is what was confirmed
  same_part : (o : Order) → executed_where is_counted movements o ≡ (if is_of kind member issue o then moved_part book.replies o else 0)
  unfolding is_counted
  same_part o = by (is_of kind member issue o) (moved_of book.replies o.number) refl
    where
      by : (its : Bool) (m : Option ℕ) → moved_of book.replies o.number ≡ m
          → (if its && is_some m then executed_part movements o else 0) ≡ (if its then unwrap_or m 0 else 0)
      by false m is = refl
      by true None is = refl
      by true (Some m) is =
          let done = confirmed_as movements book.replies o.number m executed is in
          ap (λ (r : Option Movement). unwrap_or (option_map (λ (x : Movement). x.moved) r) 0) done.1 ∙ done.2

  counted_alike : (a b : Order) → AgreesWith a b → is_counted a ≡ is_counted b
  unfolding is_counted
  counted_alike a b agree = let f = agree_fields a b agree in rw (f.number, f.kind, f.member, f.issue) refl

  pub confirmed_moved : IsNumbered 1 book.orders → All (IsAsOrdered book.orders) movements → AreOnce movements
      → moved_sum book.orders book.replies kind member issue ≡ confirmed_sum movements book.replies kind member issue
  unfolding moved_sum confirmed_sum is_counted
  confirmed_moved numbered known once =
      let all = executed_sum is_counted counted_alike book.orders movements numbered known once in
      let parts = sum_same_from _ _ book.orders 1 numbered (λ o from. same_part o) in
      omega (arith, all, parts)

-- a packet is one of an order, or of a reply, by what it spells
spelt_at : {A : Type 0} (P : Option A → Type 0) (spelt : List ℕ → Option A) (packets : List (List ℕ)) (k : ℕ) (bytes : List ℕ) → All P (map spelt packets) → slice_get packets k ≡ Some bytes
    → P (spelt bytes)
spelt_at P spelt packets k bytes all at = all_found P (map spelt packets) k (spelt bytes) all (slice_get-map spelt packets k ∙ ap (option_map spelt) at)

order_packet : (orders : List Order) (bytes : List ℕ) → IsOrderFrame bytes → SpellsOrder orders (order_spelt bytes) → IsOrderPacket orders bytes
order_packet orders bytes frame spells = record { order = frame.order; found = subst (SpellsOrder orders) frame.reads spells; frame = frame.frame; reads = frame.reads }

reply_packet : (movements : List Movement) (bytes : List ℕ) → IsReplyFrame bytes → SpellsReply movements (reply_spelt bytes) → IsReplyPacket movements bytes
reply_packet movements bytes frame spells = record { reply = frame.reply; done = subst (SpellsReply movements) frame.reads spells; frame = frame.frame; reads = frame.reads }

-- both nodes and the link are as the headline says
pub agreed : (w : World) → AreLawful w → IsBalanced w → AreFrames w.order_packets w.reply_packets → IsInAccord w → IsAgreed w
agreed w lawful balanced frames accord honest depot_honest =
    let a = accord honest depot_honest in
    let c = w.clear.clear.log.records in
    let p = w.depot.log.records in
    let movements : List Movement = executed_of p in
    let book : Orders = order_book_of c in
    let numbered : IsNumbered 1 book.orders = (lawful_bounded c lawful.0).ordered.numbered in
    let once : AreOnce movements = lawful_once w.depot.openings p lawful.1 in
    let moved : (kind : MoveKind) (member issue : ℕ) → moved_sum book.orders book.replies kind member issue ≡ confirmed_sum movements book.replies kind member issue =
    λ kind member issue. confirmed_moved book movements kind member issue a.confirmed numbered a.executed once in
    record {
      executed = a.executed;
      confirmed = a.confirmed;
      sent = λ k bytes at. order_packet (order_book_of c).orders bytes (frames.orders_are k bytes at) (spelt_at (SpellsOrder (order_book_of c).orders) order_spelt w.order_packets k bytes a.sent at);
      answered = λ k bytes at. reply_packet movements bytes (frames.replies_are k bytes at) (spelt_at (SpellsReply movements) reply_spelt w.reply_packets k bytes a.answered at);
      lawful = lawful.0;
      stock = lawful.1;
      given = λ account issue. moved_out_covered w.depot.openings p account issue lawful.1;
      netted = λ member issue. rw (moved Cover member issue, moved Delivery member issue) refl;
      one_position = λ member issue. position_in_is c member issue lawful.0;
      pool = λ issue. let sums = balanced issue in omega (arith, sums.0, sums.1);
      whole = λ issue. (balanced issue).1;
      backed = λ issue.
          let sums = balanced issue in
          omega (arith, sums.1, covers_executed book movements issue numbered a.executed once a.confirmed, moved_in_cns p issue);
      available = λ issue. let sums = balanced issue in omega (arith, sums.1);
      lent = λ issue. let sums = balanced issue in omega (arith, sums.1);
    }

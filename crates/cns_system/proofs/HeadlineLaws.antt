-- What each part of the headline says of one movement, packet, account, member or issue, in words of its own. So no part of it can be
-- dropped or weakened without a law that fails.
use Rattle.std.proofs.Common.{◌≡◌, ◌≤◌, ◌+◌, ◌∙◌, ℕ, true, List, [], ◌∷◌, ◌++◌, Some, None, ap, subst, sym, arith}
use Rattle.std.specs.Prelude.{pos, ◌-ℤ◌, min, slice_get}
use Rattle.std.proofs.lemmas.Option.{same_Some}
use Rattle.cns_trades.specs.declared.opening.Opening.{Opening}
use Rattle.cns_netting.specs.History.{bought, longs_of, position_of, shorts_of, sold}
use Rattle.cns_journal.specs.RecordLog.{MayStand}
use Rattle.cns_journal.specs.Replay.{AreAllowed}
use Rattle.cns_movements.specs.Order.{AgreesWith, moved_of, order_of}
use Rattle.cns_movements.specs.declared.order.MoveKind.TheVariants.{Cover, Delivery}
use Rattle.cns_movements.specs.declared.order.Order.{Order}
use Rattle.cns_movements.specs.declared.order.Reply.{Reply}
use Rattle.cns_records.specs.declared.allocation.Allocation.{Allocation}
use Rattle.cns_records.specs.declared.clear_record.ClearRecord.{ClearRecord}
use Rattle.cns_records.specs.declared.clear_record.ClearRecord.TheVariants.{Allocate}
use Rattle.cns_records.specs.declared.dep_record.DepRecord.{DepRecord}
use Rattle.cns_wire.specs.Frame.{order_frame, reply_frame}
use Rattle.cns_clearing.specs.Books.{confirmed_of, history_of, order_book_of}
use Rattle.cns_clearing.specs.Lots.{ClosesLot, IsAllocation}
use Rattle.cns_clearing.specs.Pools.{avail_of, covered_of, delivered_of, free_of, lent_of, out_of}
use Rattle.cns_clearing.specs.Position.{due_in, position_in}
use Rattle.cns_clearing.specs.declared.lot.Lot.{Lot}
use Rattle.cns_depository.specs.Account.{giver}
use Rattle.cns_depository.specs.Openings.{opening_shares}
use Rattle.cns_depository.specs.Stock.{IsLawfulDepot, balance_of, executed_of, execution, moved_in, moved_out, movement_of}
use Rattle.cns_depository.specs.declared.account.Account.{Account}
use Rattle.cns_depository.specs.declared.account.Account.TheVariants.{Cns}
use Rattle.cns_depository.specs.declared.movement.Movement.{Movement}
use Rattle.cns_system.specs.Headline.{AreStrict, Headline, confirmed_sum}
use Rattle.cns_system.specs.World.{World, order_in_packet, reply_in_packet}
use Rattle.cns_system.proofs.DeliveredLemmas.{confirmed_as, movement_known}

-- what is so of the record of a movement and those before it, in a lawful list
lawful_here : (openings : List Opening) (later before : List DepRecord) (m : Movement) → IsLawfulDepot openings (later ++ execution m ∷ before)
    → (movement_of (executed_of before) m.order.number ≡ None) × (m.moved ≡ min m.order.asked (balance_of openings before (giver m.order) m.order.issue))
lawful_here openings [] before m lawful = (lawful.0.number_is_new, ap (λ (x : Movement). x.moved) lawful.0.moves)
lawful_here openings (x ∷ later) before m lawful = lawful_here openings later before m lawful.1

module _ (c : List ClearRecord) (lots : List Lot) (openings : List Opening) (p : List DepRecord) (orders replies : List (List ℕ))
    (h : Headline c lots openings p orders replies) where
  -- what was executed under a number agrees with the order of that number; it moved no more than that asks for, and a delivery all of it
  pub executed_as_ordered : (number : ℕ) (m : Movement) → movement_of (executed_of p) number ≡ Some m
      → ((o : Order) × (order_of (order_book_of c).orders number ≡ Some o) × AgreesWith m.order o) × (m.moved ≤ m.order.asked) × (m.order.kind ≡ Delivery → m.moved ≡ m.order.asked)
  executed_as_ordered number m found =
      let known = movement_known (order_book_of c).orders (executed_of p) number m h.executed found in
      let its = known.0.0.0 in
      ((its.0, subst (λ (n : ℕ). order_of (order_book_of c).orders n ≡ Some its.0) known.1 its.1, its.2), known.0.1, known.0.0.1)

  -- what is confirmed under a number was executed under it, and moved just that
  pub confirmed_as_executed : (number moved : ℕ) → moved_of (confirmed_of c) number ≡ Some moved
      → (m : Movement) × (movement_of (executed_of p) number ≡ Some m) × (m.moved ≡ moved)
  confirmed_as_executed number moved found = confirmed_as (executed_of p) (confirmed_of c) number moved h.confirmed found

  -- a packet that holds an order is the frame of the order of its number
  pub sent_as_ordered : (k : ℕ) (bytes : List ℕ) (o : Order) → slice_get orders k ≡ Some bytes → order_in_packet (Some bytes) ≡ Some o
      → (order_of (order_book_of c).orders o.number ≡ Some o) × (bytes ≡ order_frame o)
  sent_as_ordered k bytes o at reads =
      let packet = h.sent k bytes at in
      let same = same_Some packet.order o (sym packet.reads ∙ reads) in
      (subst (λ (q : Order). order_of (order_book_of c).orders q.number ≡ Some q) same packet.found, subst (λ (q : Order). bytes ≡ order_frame q) same packet.frame)

  -- and one that holds a reply is the frame of that reply, and tells what was moved under its number
  pub answered_as_executed : (k : ℕ) (bytes : List ℕ) (r : Reply) → slice_get replies k ≡ Some bytes → reply_in_packet (Some bytes) ≡ Some r
      → ((m : Movement) × (movement_of (executed_of p) r.number ≡ Some m) × (m.moved ≡ r.moved)) × (bytes ≡ reply_frame r)
  answered_as_executed k bytes r at reads =
      let packet = h.answered k bytes at in
      let same = same_Some packet.reply r (sym packet.reads ∙ reads) in (
        subst (λ (q : Reply). (m : Movement) × (movement_of (executed_of p) q.number ≡ Some m) × (m.moved ≡ q.moved)) same packet.done,
        subst (λ (q : Reply). bytes ≡ reply_frame q) same packet.frame,
      )

  -- a movement was not executed before under its number, and moved the lesser of what was asked for and what its giver then had
  pub executed_once : (later before : List DepRecord) (m : Movement) → p ≡ later ++ execution m ∷ before
      → (movement_of (executed_of before) m.order.number ≡ None) × (m.moved ≡ min m.order.asked (balance_of openings before (giver m.order) m.order.issue))
  executed_once later before m is = lawful_here openings later before m (subst (IsLawfulDepot openings) is h.stock)

  -- a balance with what was moved out is the opening with what was moved in
  pub balance_adds_up : (account : Account) (issue : ℕ)
      → balance_of openings p account issue + moved_out p account issue ≡ opening_shares openings account issue + moved_in p account issue
  unfolding balance_of
  balance_adds_up account issue = omega (arith, h.given account issue)

  -- a position is what was bought in due trades and came by confirmed covers, less what was sold and went by confirmed deliveries
  pub position_adds_up : (member issue : ℕ)
      → position_in c member issue
      ≡ pos (bought (due_in c) member issue + confirmed_sum (executed_of p) (confirmed_of c) Cover member issue)
      -ℤ pos (sold (due_in c) member issue + confirmed_sum (executed_of p) (confirmed_of c) Delivery member issue)
  position_adds_up member issue = h.netted member issue

  -- and the position of the netting history, of which the longs and the shorts are, is that one
  pub history_position_adds_up : (member issue : ℕ)
      → position_of (history_of c) member issue
      ≡ pos (bought (due_in c) member issue + confirmed_sum (executed_of p) (confirmed_of c) Cover member issue)
      -ℤ pos (sold (due_in c) member issue + confirmed_sum (executed_of p) (confirmed_of c) Delivery member issue)
  history_position_adds_up member issue = h.one_position member issue ∙ h.netted member issue

  -- the longs of an issue are its shorts and the shares that are free, lent and out
  pub longs_add_up : (issue : ℕ)
      → longs_of (history_of c) issue ≡ shorts_of (history_of c) issue + free_of (order_book_of c) lots issue + lent_of lots issue + out_of (order_book_of c) issue
  longs_add_up issue = omega (arith, h.pool issue)

  -- no share that a confirmed cover brought is lost: it is free, lent or out, or a confirmed delivery took it
  pub none_is_lost : (issue : ℕ)
      → free_of (order_book_of c) lots issue + lent_of lots issue + out_of (order_book_of c) issue + delivered_of (order_book_of c) issue ≡ covered_of (order_book_of c) issue
  none_is_lost issue = omega (arith, h.whole issue)

  -- what deliveries moved and still may move was moved into the CNS account before
  pub deliveries_are_backed : (issue : ℕ) → delivered_of (order_book_of c) issue + out_of (order_book_of c) issue ≤ moved_in p Cns issue
  deliveries_are_backed issue = h.backed issue

  -- what is available of an issue, with what deliveries took and still may take, is what covers brought; and what is free, with what is lent, is
  -- what is available: nothing is cut off in either difference
  pub available_adds_up : (issue : ℕ)
      → (avail_of (order_book_of c) issue + delivered_of (order_book_of c) issue + out_of (order_book_of c) issue ≡ covered_of (order_book_of c) issue)
      × (free_of (order_book_of c) lots issue + lent_of lots issue ≡ avail_of (order_book_of c) issue)
  available_adds_up issue = (omega (arith, h.available issue), omega (arith, h.lent issue))

-- ---- what is kept beside the headline

-- what is so of a record and those before it, where each closes a lot
closes_here : (later before : List ClearRecord) (u : ClearRecord) → AreAllowed ClosesLot (later ++ u ∷ before) → ClosesLot before u
closes_here [] before u all = all.0
closes_here (x ∷ later) before u all = closes_here later before u all.1

module _ (w : World) (honest : w.clear.clear.log.honest ≡ true) (strict : AreStrict w) where
  -- an allocation closed a lot of the records before it, by tickets that serve its plan
  pub allocation_closed : (later before : List ClearRecord) (a : Allocation) → w.clear.clear.log.records ≡ later ++ Allocate a ∷ before → IsAllocation before a
  allocation_closed later before a is = closes_here later before (Allocate a) (subst (AreAllowed ClosesLot) is (strict honest).allowed)

  -- and so would one that is undecided
  pub undecided_would_close : (a : Allocation) → w.clear.clear.log.tried ≡ Some (Allocate a) → IsAllocation w.clear.clear.log.records a
  undecided_would_close a is = subst (MayStand ClosesLot w.clear.clear.log.records) is (strict honest).tried

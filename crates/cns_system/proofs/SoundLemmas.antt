-- What no event comes to while both nodes and the link are in accord.
use Rattle.std.proofs.Common.{◌≡◌, ◌≤◌, ◌∙◌, ◌⊎◌, inl, inr, ℕ, Bool, true, false, List, Option, Some, None, Result, Ok, Err, ap, refl, subst, sym, arith}
use Rattle.std.specs.Prelude.{All, IfErr, IfOk, not, nat_lt, if◌then◌else◌}
use Rattle.std.specs.Option.{option_flatten}
use Rattle.std.proofs.lemmas.Option.{same_Some}
use Rattle.cns_ids.specs.Steps.{◌>>◌, need}
use Rattle.cns_movements.specs.Order.{AgreesWith, moved_of, order_of}
use Rattle.cns_movements.proofs.AgreeLemmas.{agree_fields, agrees_with-holds}
use Rattle.cns_records.specs.Call as call
use Rattle.cns_records.specs.declared.clear_record.ClearRecord.TheVariants as entry
use Rattle.cns_clearing.specs.Answers.{reply_call, need_up}
use Rattle.cns_depository.specs.Stock.{executed_of, movement, movement_of}
use Rattle.cns_system.specs.World.{World}
use Rattle.std.proofs.lemmas.Bool.{eq-eqb, ltb-true}
use Rattle.cns_movements.specs.Book.{Orders}
use Rattle.cns_movements.specs.Confirm.{answer_by, confirm_answer}
use Rattle.cns_movements.specs.declared.book.Confirm.{Confirm}
use Rattle.cns_movements.specs.declared.book.Confirm.TheVariants as confirm
use Rattle.cns_movements.specs.declared.order.Order.{Order}
use Rattle.cns_movements.specs.declared.order.Reply.{Reply}
use Rattle.cns_depository.specs.declared.movement.Movement.{Movement}
use Rattle.cns_clearing.specs.Books.{order_book_of}
use Rattle.cns_clearing.specs.declared.answer.Taken.TheVariants as taken
use Rattle.cns_depository.specs.declared.fault.DepFault.TheVariants as fault
use Rattle.cns_wire.specs.Packet.{at_number}
use Rattle.cns_system.specs.declared.event.Event.{Event}
use Rattle.cns_system.specs.declared.event.Event.TheVariants as event
use Rattle.cns_system.specs.declared.event.NodeName.TheVariants as node
use Rattle.cns_system.proofs.DeliveredLemmas.{confirmed_as, movement_known}
use Rattle.cns_system.specs.declared.outcome.Outcome.{Outcome}
use Rattle.cns_system.specs.declared.outcome.Outcome.TheVariants as outcomes
use Rattle.cns_records.specs.declared.refusal.Refusal.{Refusal}
use Rattle.cns_records.specs.declared.refusal.Refusal.TheVariants as refusal
use Rattle.cns_system.specs.Agreement.{IsExecuted}
use Rattle.cns_depository.specs.Answers.{executes, known_call, take_order_call}
use Rattle.cns_system.specs.Accord.{Accord, IsInAccord, IsAsOrdered, IsSound, StaysSound}
use Rattle.cns_system.specs.Happens.{Change, Commits, Decision, FindsBad, Grows, Leaves, Restarts, by_clear, by_order, judged, node_restarted, taken_told}
use Rattle.cns_system.specs.Scene.{Chance, Comes, Scene, decision_at, scene_of}
use Rattle.cns_system.specs.Shown.{Shown}
use Rattle.cns_system.proofs.EventHolds.{Arrives, order_holds, reply_holds}
use Rattle.cns_system.proofs.HappensLemmas.{Holds, comes_keeps, refused_keeps}
use Rattle.cns_system.proofs.HonestLemmas.{GivesClear, GivesDepot, clear_gives, depot_gives}
use Rattle.cns_system.proofs.KeepsLemmas.{ordered, replied}
use Rattle.cns_system.proofs.StepLemmas.{err_found}

-- an executed order of a number agrees with the order of that number
pub executed_agrees : (orders : List Order) (movements : List Movement) (o : Order) (m : Movement) → All (IsAsOrdered orders) movements → order_of orders o.number ≡ Some o
    → movement_of movements o.number ≡ Some m → AgreesWith m.order o
executed_agrees orders movements o m all found executed =
    let known = movement_known orders movements o.number m all executed in
    let its = known.0.0.0 in
    subst (AgreesWith m.order) (same_Some its.0 o (sym its.1 ∙ ap (order_of orders) known.1 ∙ found)) its.2

-- a reply of an executed movement is a first or a repeated confirmation
pub answer_known : (book : Orders) (movements : List Movement) (r : Reply) → All (IsAsOrdered book.orders) movements → All (IsExecuted movements) book.replies → IsExecuted movements r
    → (confirm_answer book r ≡ confirm.Done) ⊎ (confirm_answer book r ≡ confirm.Again)
answer_known book movements r known executed done =
    let order = movement_known book.orders movements r.number done.0 known done.1 in
    let its = order.0.0.0 in
    let found = ap (order_of book.orders) (sym order.1) ∙ its.1 in
    let most : r.moved ≤ its.0.asked = omega (arith, order.0.1, done.2, (agree_fields done.0.order its.0 its.2).asked) in
    subst (λ (o : Option Order). (answer_by o (moved_of book.replies r.number) r.moved ≡ confirm.Done) ⊎ (answer_by o (moved_of book.replies r.number) r.moved ≡ confirm.Again))
    (sym found) (by its.0 (moved_of book.replies r.number) refl most)
  where
    not_more : (asked : ℕ) (b : Bool) → nat_lt asked r.moved ≡ b → r.moved ≤ asked
        → ((if b then confirm.TooMuch else confirm.Done) ≡ confirm.Done) ⊎ ((if b then confirm.TooMuch else confirm.Done) ≡ confirm.Again)
    not_more asked true less most = let more = ltb-true asked r.moved less in absurd (omega (arith, more, most))
    not_more asked false less most = inl refl

    by : (o : Order) (m : Option ℕ) → moved_of book.replies r.number ≡ m → r.moved ≤ o.asked
        → (answer_by (Some o) m r.moved ≡ confirm.Done) ⊎ (answer_by (Some o) m r.moved ≡ confirm.Again)
    by o None is most = not_more o.asked (nat_lt o.asked r.moved) refl most
    by o (Some m) is most =
        let before = confirmed_as movements book.replies r.number m executed is in
        let same : m ≡ r.moved = sym before.2 ∙ ap (λ (x : Movement). x.moved) (same_Some before.0 done.0 (sym before.1 ∙ done.1)) ∙ done.2 in
        inr (ap (λ b. if b then confirm.Again else confirm.Conflict) (eq-eqb m r.moved same))

-- ---- events

-- an outcome that is sound at each event
abbrev IsFine : Outcome → Type 0
IsFine (outcomes.Refused refusal.UnknownMove) = ⊥
IsFine (outcomes.Refused refusal.Conflict) = ⊥
IsFine (outcomes.Refused refusal.TooMuch) = ⊥
IsFine (outcomes.Refused (refusal.BadJournal place)) = ⊥
IsFine _ = Unit {0}

fine : (e : Event) (o : Outcome) → IsFine o → IsSound e o
fine (event.OrderIn packet) o is = λ e. subst IsFine e is
fine (event.ReplyIn packet) o is = (λ e. subst IsFine e is, λ e. subst IsFine e is, λ e. subst IsFine e is)
fine (event.Restart name) o is = λ place e. subst IsFine e is
fine _ o is = tt

module _ (s : Scene) (a : Accord s.shown) where
  -- an order that came is of the orders, so that it agrees with what was executed under its number, and meets no other one
  order_refused : (packet : ℕ) (o : Order) → Arrives s.shown.order_packets packet o
      → IfErr (by_order s.shown (take_order_call o s.shown.depot.down s.shown.openings s.shown.depot.records)) (λ r. IsSound (event.OrderIn packet) (outcomes.Refused r))
  unfolding take_order_call
  order_refused packet o at = by s.shown.depot.down (movement_of (executed_of s.shown.depot.records) o.number) refl
    where
      by : (down : Bool) (found : Option Movement) → movement_of (executed_of s.shown.depot.records) o.number ≡ found
          → IfErr (by_order s.shown (need (not down) fault.Down >> elim found [ None ↦ Ok (executes (movement s.shown.openings s.shown.depot.records o)) | Some known ↦ known_call o known ]))
          (λ r. IsSound (event.OrderIn packet) (outcomes.Refused r))
      by true found is = fine (event.OrderIn packet) (outcomes.Refused refusal.Down) tt
      by false None is = tt
      by false (Some known) is =
          let agrees = executed_agrees (order_book_of s.shown.clear.records).orders (executed_of s.shown.depot.records) o known a.executed (ordered s.shown a packet o at) is in
          rw (agrees_with-holds known.order o agrees) tt

  -- a reply that came is of a movement that was executed, so that it is a first or a repeated confirmation
  reply_refused : (packet : ℕ) (r : Reply) → Arrives s.shown.reply_packets packet r
      → IfErr (by_clear (taken_told r) s.shown (reply_call r s.shown.clear.down s.shown.clear.records)) (λ f. IsSound (event.ReplyIn packet) (outcomes.Refused f))
  unfolding reply_call
  reply_refused packet r at =
      by s.shown.clear.down (confirm_answer (order_book_of s.shown.clear.records) r)
      (answer_known (order_book_of s.shown.clear.records) (executed_of s.shown.depot.records) r a.executed a.confirmed (replied s.shown a packet r at))
    where
      by : (down : Bool) (answer : Confirm) → (answer ≡ confirm.Done) ⊎ (answer ≡ confirm.Again)
          → IfErr (by_clear (taken_told r) s.shown (need_up down >> elim answer [
            | confirm.Done ↦ Ok (call.Commits (entry.Confirm r) taken.Done)
            | confirm.Again ↦ Ok (call.Tells taken.Again)
            | confirm.UnknownMove ↦ Err refusal.UnknownMove
            | confirm.Conflict ↦ Err refusal.Conflict
            | confirm.TooMuch ↦ Err refusal.TooMuch
          ])) (λ f. IsSound (event.ReplyIn packet) (outcomes.Refused f))
      by true answer is = fine (event.ReplyIn packet) (outcomes.Refused refusal.Down) tt
      by false answer (inl is) = rw is tt
      by false answer (inr is) = rw is tt

  -- what there is refuses no event otherwise
  refused_sound : (e : Event) → IfErr (judged e s.shown) (λ r. IsSound e (outcomes.Refused r))
  unfolding judged
  refused_sound (event.OrderIn packet) =
      let held = option_flatten (at_number s.shown.order_packets packet) in
      let next : Order → Result Change Refusal = λ o. by_order s.shown (take_order_call o s.shown.depot.down s.shown.openings s.shown.depot.records) in
      err_found (λ r. IsSound (event.OrderIn packet) (outcomes.Refused r)) held refusal.NoPacket next (fine (event.OrderIn packet) (outcomes.Refused refusal.NoPacket) tt) (order_refused packet)
  refused_sound (event.ReplyIn packet) =
      let held = option_flatten (at_number s.shown.reply_packets packet) in
      let next : Reply → Result Change Refusal = λ r. by_clear (taken_told r) s.shown (reply_call r s.shown.clear.down s.shown.clear.records) in
      err_found (λ r. IsSound (event.ReplyIn packet) (outcomes.Refused r)) held refusal.NoPacket next (fine (event.ReplyIn packet) (outcomes.Refused refusal.NoPacket) tt) (reply_refused packet)
  refused_sound (event.Restart name) = tt
  refused_sound e = refused_keeps (λ r. Unit {0}) (judged e s.shown) (λ r. tt)

-- what is so of anything is so of each change
holds_always : (P : Outcome → Shown → Type 0) (d : Decision) (w : Shown) (j : Result Change Refusal) → ((o : Outcome) (left : Shown) → P o left) → IfOk j (Holds P d w)
holds_always P d w (Err r) all = tt
holds_always P d w (Ok (Leaves o left)) all = all o left
holds_always P d w (Ok (Grows o left)) all = all o left
holds_always P d w (Ok (Commits o left failed)) all = (all o left, all (outcomes.Refused refusal.Device) failed)
holds_always P d w (Ok (Restarts name)) all = all (node_restarted d name w).0 (node_restarted d name w).1

-- no journal of an honest keeper is bad
clear_told : (d : Decision) (w : Shown) → GivesClear w d → IsSound (event.Restart node.Clear) (node_restarted d node.Clear w).0
clear_told (FindsBad place) w gives = absurd gives
clear_told _ w gives = λ place e. cc e

depot_told : (d : Decision) (w : Shown) → GivesDepot w d → IsSound (event.Restart node.Depot) (node_restarted d node.Depot w).0
depot_told (FindsBad place) w gives = absurd gives
depot_told _ w gives = λ place e. cc e

-- an accepted event comes to nothing else that is not sound
accepted_sound : (s : Scene) (chance : Chance) (e : Event) → s.clear.honest ≡ true → s.depot.honest ≡ true
    → IfOk (judged e s.shown) (Holds (λ (o : Outcome) (left : Shown). IsSound e o) (decision_at chance e s) s.shown)
unfolding judged
accepted_sound s chance (event.OrderIn packet) clear depot =
    order_holds (λ (o : Outcome) (left : Shown). IsSound (event.OrderIn packet) o) _ s.shown packet (λ place known at. λ e. cc e) (λ place o at up fresh. (λ e. cc e, λ e. cc e))
accepted_sound s chance (event.ReplyIn packet) clear depot =
    let told = fine (event.ReplyIn packet) in
    reply_holds (λ (o : Outcome) (left : Shown). IsSound (event.ReplyIn packet) o) _ s.shown packet (λ r. told (outcomes.ConfirmedAgain r) tt)
    (λ r at up. (told (outcomes.Confirmed r) tt, told (outcomes.Refused refusal.Device) tt))
accepted_sound s chance (event.Restart node.Clear) clear depot = clear_told (decision_at chance (event.Restart node.Clear) s) s.shown (clear_gives s chance clear)
accepted_sound s chance (event.Restart node.Depot) clear depot = depot_told (decision_at chance (event.Restart node.Depot) s) s.shown (depot_gives s chance depot)
accepted_sound s chance e clear depot = holds_always (λ (o : Outcome) (left : Shown). Unit {0}) (decision_at chance e s) s.shown (judged e s.shown) (λ o left. tt)

-- what no event comes to
pub step_sound : (e : Event) (outcome : Outcome) (old new : World) → Comes e outcome old new → IsInAccord old → StaysSound old e outcome
step_sound e outcome old new comes accord clear_honest depot_honest =
    let s : Scene = scene_of old in
    comes_keeps (λ (o : Outcome) (left : Shown). IsSound e o) e outcome old new comes (refused_sound s (accord clear_honest depot_honest) e)
    (fine e (outcomes.Refused refusal.OutOfMemory) tt) (λ chance. accepted_sound s chance e clear_honest depot_honest)

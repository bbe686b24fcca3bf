-- What holds of each change that an event may come to: one lemma for each kind of event, over any property of what is told and left. A refusal needs no case.
use Rattle.std.proofs.Common.{◌≡◌, ◌∙◌, ◌+◌, ◌++◌, [], ◌∷◌, ℕ, Bool, true, false, List, length, Option, Some, None, Result, Ok, Err, ap, not, refl}
use Rattle.std.specs.Prelude.{IfOk, nat_lt}
use Rattle.std.specs.Option.{is_none, ok_or, option_flatten}
use Rattle.cns_ids.specs.Steps.{◌>>=◌, ◌>>◌, need}
use Rattle.cns_movements.specs.Order.{order_of}
use Rattle.cns_movements.specs.declared.order.Order.{Order}
use Rattle.cns_movements.specs.declared.order.Reply.{Reply}
use Rattle.cns_movements.proofs.AgreeLemmas.{agree_fields}
use Rattle.cns_pool.specs.declared.ticket.Ticket.{Ticket}
use Rattle.cns_allocate.specs.declared.planned.Planned.{Planned}
use Rattle.cns_wire.specs.Packet.{at_number}
use Rattle.cns_records.specs.Call.{Deed}
use Rattle.cns_records.specs.Call as call
use Rattle.cns_records.specs.declared.clear_record.ClearRecord.{ClearRecord}
use Rattle.cns_records.specs.declared.clear_record.ClearRecord.TheVariants as entry
use Rattle.cns_records.specs.declared.dep_record.DepRecord.{DepRecord}
use Rattle.cns_records.specs.declared.dep_record.DepRecord.TheVariants as dep
use Rattle.cns_records.specs.declared.instruction.Instruction.{Instruction}
use Rattle.cns_records.specs.declared.refusal.Refusal.{Refusal}
use Rattle.cns_records.specs.declared.refusal.Refusal.TheVariants as refusal
use Rattle.cns_clearing.specs.Answers.{need_up, open_call, order_call, pour_call, reply_call}
use Rattle.cns_clearing.specs.Books.{order_book_of}
use Rattle.cns_clearing.specs.Lots.{lots_poured, new_lot}
use Rattle.cns_clearing.specs.Pools.{free_of, lot_of}
use Rattle.cns_clearing.specs.declared.answer.Closed.{Closed}
use Rattle.cns_clearing.specs.declared.answer.Taken.{Taken}
use Rattle.cns_clearing.specs.declared.lot.Lot.{Lot}
use Rattle.cns_depository.specs.Answers.{instruct_call, take_order_call, reply_to}
use Rattle.cns_depository.specs.Stock.{executed_of, execution, movement, movement_of}
use Rattle.cns_depository.specs.declared.fault.Answer.{Answer}
use Rattle.cns_depository.specs.declared.fault.DepFault.{DepFault}
use Rattle.cns_depository.specs.declared.fault.Own.{Own}
use Rattle.cns_depository.specs.declared.fault.OwnFault.{OwnFault}
use Rattle.cns_depository.specs.declared.movement.Movement.{Movement}
use Rattle.cns_system.specs.Happens.{Change, Decision, Grows, Leaves, by_clear, by_order, by_own, clear_deed, judged, taken_told, with_reply_put}
use Rattle.cns_system.specs.Lot.{LotState, numbered_lot, with_seal, with_ticket}
use Rattle.cns_system.specs.Lots.{draw_call, going_lot, with_lot}
use Rattle.cns_system.specs.Numbered.{look_call, with_lot_ended, numbered_close, numbered_open, numbered_pour}
use Rattle.cns_system.specs.Shown.{Shown, clear_added, clear_failed, depot_added, depot_failed}
use Rattle.cns_system.specs.declared.event.Event.TheVariants as event
use Rattle.cns_system.specs.declared.entry.Look.{Look}
use Rattle.cns_system.specs.declared.numbered.Opened.{Opened}
use Rattle.cns_system.specs.declared.outcome.Outcome.{Outcome}
use Rattle.cns_system.specs.declared.outcome.Outcome.TheVariants as outcomes
use Rattle.cns_system.proofs.HappensLemmas.{Holds}
use Rattle.cns_system.proofs.LotsLemmas.{IsGoing, going_parts, ok_drawn, with_new_lot}
use Rattle.cns_system.proofs.NumberedLemmas.{IsDrawn, ticket_parts}
use Rattle.cns_system.proofs.OrderDeeds.{IsOrderDeed, IsOwnDeed, order_deeds, own_deeds}
use Rattle.cns_system.proofs.RecordedLemmas.{Commits, IsClose, Recorded, allocated, close_records, ok_up, reply_records}
use Rattle.cns_system.proofs.StepLemmas.{ok_found, ok_needed, ok_then, steps_by}

-- the packet of a number spells this order, or this reply
abbrev pub Arrives : {A : Type 0} → List (Option A) → ℕ → A → Type 0
Arrives packets number a = option_flatten (at_number packets number) ≡ Some a

-- the movement that a new order comes to
abbrev pub next_movement : Shown → Order → Movement
next_movement w o = movement w.openings w.depot.records o

-- each lemma says: where the property holds of what the event tells and leaves, by what its call found, it holds of the change that the event is judged to be
module _ (P : Outcome → Shown → Type 0) (d : Decision) (w : Shown) where
  -- the property holds of the change, where the event is not refused
  abbrev Holding : Result Change Refusal → Type 0
  Holding j = IfOk j (Holds P d w)

  -- it holds where this record of the clearing node is added, and where its commit fails at the device
  abbrev pub Added : Outcome → ClearRecord → List LotState → Type 0
  Added told r lots = P told (record (clear_added r w) { lots = lots }) × P (outcomes.Refused refusal.Device) (clear_failed r w)

  -- a call of the clearing node tells what it found, or commits a record
  by_record : {X : Type 0} (told : X → Outcome) (ends : List LotState → List LotState) (deed : Result (Deed ClearRecord X) Refusal) (T : X → Type 0) (Q : ClearRecord → X → Type 0)
      → IfOk deed (Recorded w.clear.down T Q) → ((x : X) → T x → P (told x) w) → ((r : ClearRecord) (x : X) → w.clear.down ≡ false → Q r x → Added (told x) r (ends w.lots))
      → Holding (deed >>= λ k. Ok (clear_deed told ends w k))
  by_record told ends (Err r) T Q is tells commits = tt
  by_record told ends (Ok (call.Tells x)) T Q is tells commits = tells x is
  by_record told ends (Ok (call.Commits r x)) T Q (up, is) tells commits = commits r x up is

  -- a call that is not refused commits just this record
  pub commit_holds : {X : Type 0} (told : X → Outcome) (r : ClearRecord) (deed : Result (Deed ClearRecord X) Refusal) → IfOk deed (Commits w.clear.down r)
      → ((x : X) → w.clear.down ≡ false → Added (told x) r w.lots) → Holding (by_clear told w deed)
  commit_holds told r deed is adds = by_record told (λ lots. lots) deed (λ x. ⊥) (λ k x. k ≡ r) is (λ x no. absurd no) (λ k x up same. rw same (adds x up))

  -- a lot is opened where none of its issue is open
  pub open_holds : (issue : ℕ)
      → (lot_of w.open_lots issue ≡ None → let lot = new_lot w.clear.records issue in
      P (outcomes.LotOpened (record { number = length w.lots + 1; poured = lot.poured; plan = lot.plan })) (with_new_lot lot w))
      → Holding (judged (event.LotOpen issue) w)
  unfolding judged numbered_open open_call
  open_holds issue opens = by w.clear.down (lot_of w.open_lots issue) refl (nat_lt (length w.lots) 1000000)
    where
      lot : Lot
      lot = new_lot w.clear.records issue

      numbered : List Planned × List Lot → Result (Opened × (List Lot × List LotState)) Refusal
      numbered opened = Ok (record { number = length w.lots + 1; poured = lot.poured; plan = opened.0 }, (opened.1, w.lots ++ numbered_lot issue opened.0 ∷ []))

      by : (down : Bool) (found : Option Lot) → lot_of w.open_lots issue ≡ found → (few : Bool)
          → Holding (((need_up down >> need (is_none found) refusal.LotAlready >> Ok (lot.plan, w.open_lots ++ lot ∷ [])) >>= λ (o : List Planned × List Lot). need few refusal.LotsSpent >> numbered o)
          >>= λ o. Ok (Grows (outcomes.LotOpened o.0) (record w { open_lots = o.1.0; lots = o.1.1 })))
      by true found is few = tt
      by false None is false = tt
      by false None is true = opens is
      by false (Some l) is few = tt

  -- a lot is poured into, a ticket of it is drawn, it is sealed, or closed, where it has not ended
  pub pour_holds : (number : ℕ)
      → ((lot : LotState) → IsGoing w.lots number lot
      → P (outcomes.Poured (free_of (order_book_of w.clear.records) w.open_lots lot.issue)) (record w { open_lots = lots_poured w.clear.records lot.issue w.open_lots }))
      → Holding (judged (event.LotPour number) w)
  unfolding judged numbered_pour pour_call
  pour_holds number pours =
      let told : ℕ × List Lot → Result Change Refusal = λ poured. Ok (Leaves (outcomes.Poured poured.0) (record w { open_lots = poured.1 })) in
      let Held : ℕ × List Lot → Type 0 = λ poured. IfOk (told poured) (Holds P d w) in
      let has : LotState → Bool = λ lot. not (is_none (lot_of w.open_lots lot.issue)) in
      let poured : LotState → Result (ℕ × List Lot) Refusal = λ lot. Ok (free_of (order_book_of w.clear.records) w.open_lots lot.issue, lots_poured w.clear.records lot.issue w.open_lots) in
      steps_by (Holds P d w) (going_lot w.lots number) (λ lot. pour_call lot.issue w.clear.down w.clear.records w.open_lots) told
      (λ lot going. ok_up Held w.clear.down (need (has lot) refusal.NoLot >> poured lot) (λ up.
      ok_needed Held (has lot) refusal.NoLot (poured lot) (λ is. pours lot (going_parts w.lots number lot going))))

  pub reserve_holds : (number member : ℕ)
      → ((lot : LotState) (t : Ticket) → IsGoing w.lots number lot → IsDrawn lot member t
      → P (outcomes.Drawn t) (record w { lots = with_lot number (with_ticket t lot) w.lots }))
      → Holding (judged (event.Reserve number member) w)
  unfolding judged
  reserve_holds number member draws =
      let told : Ticket × List LotState → Result Change Refusal = λ drawn. Ok (Leaves (outcomes.Drawn drawn.0) (record w { lots = drawn.1 })) in
      let made : Ticket × LotState → Result (Ticket × List LotState) Refusal = λ drawn. Ok (drawn.0, with_lot number drawn.1 w.lots) in
      steps_by (Holds P d w) (going_lot w.lots number) (λ lot. draw_call member lot >>= made) told
      (λ lot going. ok_drawn (λ (p : Ticket × List LotState). IfOk (told p) (Holds P d w)) member lot made
      (λ t is. draws lot t (going_parts w.lots number lot going) (ticket_parts lot member t is)))

  pub seal_holds : (number : ℕ) → ((lot : LotState) → IsGoing w.lots number lot → P outcomes.Done (record w { lots = with_lot number (with_seal lot) w.lots }))
      → Holding (judged (event.Seal number) w)
  unfolding judged
  seal_holds number seals =
      let told : Unit {0} × List LotState → Result Change Refusal = λ sealed. Ok (Leaves outcomes.Done (record w { lots = sealed.1 })) in
      steps_by (Holds P d w) (going_lot w.lots number) (λ lot. Ok (tt {0}, with_lot number (with_seal lot) w.lots)) told
      (λ lot going. seals lot (going_parts w.lots number lot going))

  pub close_holds : (number : ℕ)
      → ((done : Closed) (close : IsClose number w.open_lots w.lots) → w.clear.down ≡ false → Added (outcomes.Closed done) (allocated close) (with_lot_ended number w.lots))
      → Holding (judged (event.LotClose number) w)
  unfolding judged
  close_holds number closes =
      by_record (λ (done : Closed). outcomes.Closed done) (with_lot_ended number) (numbered_close number w.clear.down w.clear.records w.open_lots w.lots) _ _
      (close_records number w.clear.down w.clear.records w.open_lots w.lots) (λ done no. absurd no) (λ r done up is. rw (is.1) (closes done is.0 up))

  -- a look tells of such a lot, and changes nothing
  pub look_holds : (number : ℕ) (told : Look → Outcome) → ((outcome : Outcome) → P outcome w) → Holding (look_call number w.open_lots w.lots >>= λ look. Ok (Leaves (told look) w))
  look_holds number told looks = ok_then (Holds P d w) (look_call number w.open_lots w.lots) (λ look. Ok (Leaves (told look) w)) (λ look is. looks (told look))

  -- the order of the number is put on the link
  pub send_holds : (number : ℕ)
      → ((packet : ℕ) (o : Order) → order_of (order_book_of w.clear.records).orders number ≡ Some o → P (outcomes.Sent packet) (record w { order_packets = w.order_packets ++ Some o ∷ [] }))
      → Holding (judged (event.Send number) w)
  unfolding judged order_call
  send_holds number sends = by w.clear.down (order_of (order_book_of w.clear.records).orders number) refl
    where
      put : Order → Result Change Refusal
      put o = Ok (Grows (outcomes.Sent (length w.order_packets + 1)) (record w { order_packets = w.order_packets ++ Some o ∷ [] }))

      by : (down : Bool) (order : Option Order) → order_of (order_book_of w.clear.records).orders number ≡ order
          → Holding ((need_up down >> ok_or order refusal.UnknownMove) >>= put)
      by true order found = tt
      by false None found = tt
      by false (Some o) found = sends (length w.order_packets + 1) o found

  -- an order that arrives was executed before; or it is executed, or the commit fails at the device
  pub order_holds : (packet : ℕ)
      → ((place : ℕ) (known : Movement) → movement_of (executed_of w.depot.records) known.order.number ≡ Some known → P (outcomes.ExecutedAgain (reply_to known) place) (with_reply_put (reply_to known) w))
      → ((place : ℕ) (o : Order) → Arrives w.order_packets packet o → w.depot.down ≡ false → movement_of (executed_of w.depot.records) o.number ≡ None
      → let m = next_movement w o in
      P (outcomes.Executed (reply_to m) place) (with_reply_put (reply_to m) (depot_added (execution m) w)) × P (outcomes.Refused refusal.Device) (depot_failed (execution m) w))
      → Holding (judged (event.OrderIn packet) w)
  unfolding judged
  order_holds packet again executes =
      let call : Order → Result (Deed DepRecord Answer) DepFault = λ o. take_order_call o w.depot.down w.openings w.depot.records in
      ok_found (Holds P d w) (option_flatten (at_number w.order_packets packet)) refusal.NoPacket (λ o. by_order w (call o))
      (λ o at. by o at (call o) (order_deeds o w.depot.down w.openings w.depot.records))
    where
      by : (o : Order) → Arrives w.order_packets packet o → (deed : Result (Deed DepRecord Answer) DepFault) → IfOk deed (IsOrderDeed o w.depot.down w.openings w.depot.records) → Holding (by_order w deed)
      by o at (Err fault) is = tt
      by o at (Ok (call.Tells a)) (known, found, agrees, is) = rw is (again _ known (ap (movement_of (executed_of w.depot.records)) (agree_fields known.order o agrees).number ∙ found))
      by o at (Ok (call.Commits e a)) (up, none, e_is, a_is) = rw (e_is, a_is) (executes _ o at up none)

  -- a member's own instruction was carried out before; or it is carried out, or the commit fails
  pub own_holds : (i : Instruction) → P (outcomes.InstructedAgain i) w
      → (w.depot.down ≡ false → P (outcomes.Instructed i) (depot_added (dep.Own i) w) × P (outcomes.Refused refusal.Device) (depot_failed (dep.Own i) w)) → Holding (judged (event.Own i) w)
  unfolding judged
  own_holds i again instructs = by (instruct_call i w.depot.down w.openings w.depot.records) (own_deeds i w.depot.down w.openings w.depot.records)
    where
      by : (deed : Result (Deed DepRecord Own) OwnFault) → IfOk deed (IsOwnDeed i w.depot.down) → Holding (by_own i w deed)
      by (Err fault) is = tt
      by (Ok (call.Tells o)) is = rw is again
      by (Ok (call.Commits e o)) (up, e_is, o_is) = rw (e_is, o_is) (instructs up)

  -- a reply that arrives was confirmed before; or its record is committed
  pub reply_holds : (packet : ℕ) → ((r : Reply) → P (outcomes.ConfirmedAgain r) w)
      → ((r : Reply) → Arrives w.reply_packets packet r → w.clear.down ≡ false → Added (outcomes.Confirmed r) (entry.Confirm r) w.lots) → Holding (judged (event.ReplyIn packet) w)
  unfolding judged
  reply_holds packet again confirms =
      let call : Reply → Result (Deed ClearRecord Taken) Refusal = λ r. reply_call r w.clear.down w.clear.records in
      ok_found (Holds P d w) (option_flatten (at_number w.reply_packets packet)) refusal.NoPacket (λ r. by_clear (taken_told r) w (call r))
      (λ r at.
      by_record (taken_told r) (λ lots. lots) (call r) _ _ (reply_records r w.clear.down w.clear.records) (λ x is. rw is (again r))
      (λ k x up is. rw (is.0, is.1) (confirms r at up)))

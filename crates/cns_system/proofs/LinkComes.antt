-- What is sent, and what arrives at a node, comes to what its call leaves.
use Rattle.std.specs.Prelude.{◌-◌, ◌⊎◌, ◌==◌, map, slice_get, option_map, option_and_then, if◌then◌else◌}
use Rattle.std.specs.Option.{option_flatten}
use Rattle.std.proofs.lemmas.List.{length-append, length-map, map-append}
use Rattle.std.proofs.lemmas.Option.{same_Some, slice_get-map}
use Rattle.std.proofs.Common.{zero, suc, ◌≡◌, ◌∙◌, ◌+◌, ◌++◌, [], ◌∷◌, ℕ, Bool, true, false, List, length, Option, Some, None, Result, Ok, Err, inl, inr, refl, sym, ap, subst}
use Rattle.cns_journal.specs.RecordLog.{LogShown, LogState, log_shown}
use Rattle.cns_journal.specs.declared.record_log.CommitFault.{CommitFault}
use Rattle.cns_journal.specs.declared.record_log.CommitFault.TheVariants as commit
use Rattle.cns_movements.specs.Order.{AgreesWith, order_of}
use Rattle.cns_movements.proofs.AgreeLemmas.{agrees_with-differ, agrees_with-holds}
use Rattle.cns_movements.specs.declared.order.Order.{Order}
use Rattle.cns_movements.specs.declared.order.Reply.{Reply}
use Rattle.cns_wire.specs.ReadFrame.{read_frame_of}
use Rattle.cns_wire.specs.Frame.{order_frame, reply_frame}
use Rattle.cns_wire.specs.declared.frame.Frame.TheVariants as frame
use Rattle.cns_wire.specs.Packet.{at_number}
use Rattle.cns_records.specs.Call.{Deed}
use Rattle.cns_records.specs.Call as call
use Rattle.cns_journal.specs.RecordLog.{LogCommits}
use Rattle.cns_records.specs.Refusals.{commit_refusal}
use Rattle.cns_records.specs.declared.dep_record.DepRecord.{DepRecord}
use Rattle.cns_records.specs.declared.instruction.Instruction.{Instruction}
use Rattle.cns_records.specs.declared.refusal.Refusal.{Refusal}
use Rattle.cns_records.specs.declared.refusal.Refusal.TheVariants as refusal
use Rattle.cns_clearing.specs.Answers.{NodeLeaves, order_call, reply_call}
use Rattle.cns_clearing.specs.Books.{order_book_of}
use Rattle.cns_clearing.specs.declared.answer.Taken.{Taken}
use Rattle.cns_clearing.specs.declared.answer.Taken.TheVariants as taken
use Rattle.cns_depository.specs.Answers.{InstructLeaves, OrderLeaves, dep_fault, dep_refusal, own_fault, instruct_call, take_order_call, own_fault_refusal}
use Rattle.cns_depository.specs.Node as depot
use Rattle.cns_depository.specs.Node.{DepNode}
use Rattle.cns_depository.specs.declared.fault.Answer.TheVariants as answer
use Rattle.cns_depository.specs.Stock.{executed_of, movement_of}
use Rattle.cns_depository.specs.declared.movement.Movement.{Movement}
use Rattle.cns_depository.specs.declared.fault.Answer.{Answer}
use Rattle.cns_depository.specs.declared.fault.DepFault.{DepFault}
use Rattle.cns_depository.specs.declared.fault.Own.{Own}
use Rattle.cns_depository.specs.declared.fault.Own.TheVariants as own
use Rattle.cns_depository.specs.declared.fault.OwnFault.{OwnFault}
use Rattle.cns_system.specs.Devices.{node_of}
use Rattle.cns_system.specs.Happens.{Commits, Grows, NoMemory, answer_told, answer_reply, by_order, by_own, judged, outcome_of, own_told, decided, taken_told}
use Rattle.cns_system.specs.Numbered.{NumberedNode}
use Rattle.cns_system.specs.Scene.{Comes, KeeperKnowledge, scene_of, knowledge_of}
use Rattle.cns_system.specs.Shown.{Shown, depot_failed, shown_of}
use Rattle.cns_system.specs.World.{AreFrames, IsOrderFrame, World, order_in_packet, order_spelt, reply_in_packet, reply_spelt}
use Rattle.cns_system.specs.declared.event.Event.{Event}
use Rattle.cns_system.specs.declared.event.Event.TheVariants as event
use Rattle.cns_system.specs.declared.event.NodeName.TheVariants as node
use Rattle.cns_system.specs.declared.outcome.Outcome.{Outcome}
use Rattle.cns_system.specs.declared.outcome.Outcome.TheVariants as outcomes
use Rattle.cns_system.proofs.CallComes.{IsTold, node_comes, told_leaves}
use Rattle.cns_system.proofs.ComesLemmas.{IsByCommit, by_same, commits, fails, grows, not_committed, not_grown, refused, tells, untouched_refl}
use Rattle.cns_system.proofs.TiedLemmas.{get_more}

-- ---- packets

-- what a packet spells, by its place on the link
spelt_at : {A : Type 0} (spelt : List ℕ → Option A) (packets : List (List ℕ)) (n : ℕ) → option_flatten (at_number (map spelt packets) n) ≡ option_and_then spelt (at_number packets n)
spelt_at spelt packets n = by (n == 0)
  where
    of : (found : Option (List ℕ)) → option_flatten (option_map spelt found) ≡ option_and_then spelt found
    of None = refl
    of (Some bytes) = refl

    by : (none : Bool) → option_flatten (if none then None else slice_get (map spelt packets) (n - 1)) ≡ option_and_then spelt (if none then None else slice_get packets (n - 1))
    by true = refl
    by false = rw (slice_get-map spelt packets (n - 1)) (of (slice_get packets (n - 1)))

pub spells_order : (o : Order) → read_frame_of (order_frame o) ≡ Ok (frame.Order o) → order_spelt (order_frame o) ≡ Some o
spells_order o is = rw is refl

-- ---- an order is sent

module _ (number : ℕ) where
  pub send_down : (w : World) → w.clear.clear.log.down ≡ true → Comes (event.Send number) (outcomes.Refused refusal.Down) w w
  unfolding judged order_call
  send_down w down = refused (event.Send number) w refusal.Down (rw down refl)

  pub send_unknown : (w : World) → w.clear.clear.log.down ≡ false → order_of (order_book_of w.clear.clear.log.records).orders number ≡ None
      → Comes (event.Send number) (outcomes.Refused refusal.UnknownMove) w w
  unfolding judged order_call
  send_unknown w up none = refused (event.Send number) w refusal.UnknownMove (rw (up, none) refl)

  send_found : (o : Order) (w : Shown) → w.clear.down ≡ false → order_of (order_book_of w.clear.records).orders number ≡ Some o
      → judged (event.Send number) w ≡ Ok (Grows (outcomes.Sent (length w.order_packets + 1)) (record w { order_packets = w.order_packets ++ Some o ∷ [] }))
  unfolding judged order_call
  send_found o w up found = rw (up, found) refl

  pub send_short : (o : Order) (w : World) → w.clear.clear.log.down ≡ false → order_of (order_book_of w.clear.clear.log.records).orders number ≡ Some o
      → Comes (event.Send number) (outcomes.Refused refusal.OutOfMemory) w w
  send_short o w up found =
      not_grown (event.Send number) w (λ c. refl) (outcomes.Sent (length (map order_spelt w.order_packets) + 1)) (record (shown_of w) { order_packets = map order_spelt w.order_packets ++ Some o ∷ [] })
      (send_found o (shown_of w) up found)

  pub sent : (o : Order) (packet : ℕ) (orders : List (List ℕ)) (w : World) → w.clear.clear.log.down ≡ false → order_of (order_book_of w.clear.clear.log.records).orders number ≡ Some o
      → orders ≡ w.order_packets ++ order_frame o ∷ [] → packet ≡ length orders → order_spelt (order_frame o) ≡ Some o
      → Comes (event.Send number) (outcomes.Sent packet) w (record w { order_packets = orders })
  sent o packet orders w up found are place spells =
      let spelt : map order_spelt orders ≡ map order_spelt w.order_packets ++ Some o ∷ [] = rw (are, map-append order_spelt w.order_packets (order_frame o ∷ []), spells) refl in
      let next : length (map order_spelt w.order_packets) + 1 ≡ packet = sym (place ∙ rw (are, length-append w.order_packets (order_frame o ∷ []), length-map w.order_packets order_spelt) refl) in
      subst (λ (n : ℕ). Comes (event.Send number) (outcomes.Sent n) w (record w { order_packets = orders })) next
      (grows (event.Send number) w (record w { order_packets = orders }) (λ c. refl) (outcomes.Sent (length (map order_spelt w.order_packets) + 1))
      (record (shown_of w) { order_packets = map order_spelt w.order_packets ++ Some o ∷ [] }) (send_found o (shown_of w) up found) (rw spelt refl) refl refl)

-- no packets are none that is no frame
no_packet : (none : List (List ℕ)) → none ≡ [] → (k : ℕ) (bytes : List ℕ) → slice_get none k ≡ Some bytes → ⊥
no_packet [] empty zero bytes is = absurd (cc is)
no_packet [] empty (suc k) bytes is = absurd (cc is)
no_packet (b ∷ none) empty k bytes is = absurd (cc empty)

pub no_frames : AreFrames [] []
no_frames = record { orders_are = λ k bytes is. absurd (no_packet [] refl k bytes is); replies_are = λ k bytes is. absurd (no_packet [] refl k bytes is) }

-- the frame of an order is put on the link
pub frames_sent : (orders replies after : List (List ℕ)) (o : Order) → AreFrames orders replies → after ≡ orders ++ order_frame o ∷ [] → order_spelt (order_frame o) ≡ Some o
    → AreFrames after replies
frames_sent orders replies after o are is spells = subst (λ (ps : List (List ℕ)). AreFrames ps replies) (sym is) (record {
  orders_are = λ k bytes at. by k bytes (get_more orders k (order_frame o) bytes at);
  replies_are = are.replies_are;
})
  where
    by : (k : ℕ) (bytes : List ℕ) → (slice_get orders k ≡ Some bytes) ⊎ ((k ≡ length orders) × (order_frame o ≡ bytes)) → IsOrderFrame bytes
    by k bytes (inl at) = are.orders_are k bytes at
    by k bytes (inr (last, one)) = subst IsOrderFrame one (record { order = o; frame = refl; reads = spells })

-- ---- a reply arrives

module _ (packet : ℕ) where
  pub no_reply : (w : World) → reply_in_packet (at_number w.reply_packets packet) ≡ None → Comes (event.ReplyIn packet) (outcomes.Refused refusal.NoPacket) w w
  unfolding judged
  no_reply w none = refused (event.ReplyIn packet) w refusal.NoPacket (rw (spelt_at reply_spelt w.reply_packets packet ∙ none) refl)

  pub reply_comes : (r : Reply) (result : Result Taken Refusal) (old : World) (n : NumberedNode) → reply_in_packet (at_number old.reply_packets packet) ≡ Some r → n.lots ≡ old.clear.lots
      → NodeLeaves (reply_call r old.clear.clear.log.down old.clear.clear.log.records) result old.clear.clear n.clear
      → Comes (event.ReplyIn packet) (outcome_of (taken_told r) result) old (record old { clear = n })
  unfolding judged
  reply_comes r result old n held lots left =
      node_comes (event.ReplyIn packet) (taken_told r) (reply_call r old.clear.clear.log.down old.clear.clear.log.records) result old n (λ c. refl) refl quiet
      (rw (spelt_at reply_spelt old.reply_packets packet ∙ held) refl) lots left
    where
      quiet : (t : Taken) → IsTold (taken_told r t)
      quiet taken.Done = tt
      quiet taken.Again = tt

-- ---- an order arrives

module _ (packet : ℕ) (o : Order) where
  order_is : (w : World) → order_in_packet (at_number w.order_packets packet) ≡ Some o
      → judged (event.OrderIn packet) (shown_of w) ≡ by_order (shown_of w) (take_order_call o w.depot.log.down w.depot.openings w.depot.log.records)
  unfolding judged
  order_is w held = rw (spelt_at order_spelt w.order_packets packet ∙ held) refl

  pub without_room : (r : Refusal) (w : World) → order_in_packet (at_number w.order_packets packet) ≡ Some o
      → decided NoMemory (shown_of w) (by_order (shown_of w) (take_order_call o w.depot.log.down w.depot.openings w.depot.log.records)) ≡ (outcomes.Refused r, shown_of w)
      → Comes (event.OrderIn packet) (outcomes.Refused r) w w
  without_room r w held is = by (take_order_call o w.depot.log.down w.depot.openings w.depot.log.records) (order_is w held) is
    where
      by : (d : Result (Deed DepRecord Answer) DepFault) → judged (event.OrderIn packet) (shown_of w) ≡ by_order (shown_of w) d
          → decided NoMemory (shown_of w) (by_order (shown_of w) d) ≡ (outcomes.Refused r, shown_of w) → Comes (event.OrderIn packet) (outcomes.Refused r) w w
      by (Err fault) judge is = subst (λ (k : Outcome). Comes (event.OrderIn packet) k w w) (ap (λ (p : Outcome × Shown). p.0) is) (refused (event.OrderIn packet) w (dep_refusal fault) judge)
      by (Ok (call.Tells a)) judge is =
          subst (λ (k : Outcome). Comes (event.OrderIn packet) k w w) (ap (λ (p : Outcome × Shown). p.0) is) (not_grown (event.OrderIn packet) w (λ c. refl) _ _ judge)
      by (Ok (call.Commits e a)) judge is =
          subst (λ (k : Outcome). Comes (event.OrderIn packet) k w w) (ap (λ (p : Outcome × Shown). p.0) is) (not_committed (event.OrderIn packet) w (λ c. refl) _ _ _ judge)

pub no_order : (packet : ℕ) (w : World) → order_in_packet (at_number w.order_packets packet) ≡ None → Comes (event.OrderIn packet) (outcomes.Refused refusal.NoPacket) w w
unfolding judged
no_order packet w none = refused (event.OrderIn packet) w refusal.NoPacket (rw (spelt_at order_spelt w.order_packets packet ∙ none) refl)

-- what an order comes to where there is no memory
module _ (o : Order) (w : World) where
  abbrev pub IsShort : Refusal → Type 0
  IsShort r = decided NoMemory (shown_of w) (by_order (shown_of w) (take_order_call o w.depot.log.down w.depot.openings w.depot.log.records)) ≡ (outcomes.Refused r, shown_of w)

  pub short_down : w.depot.log.down ≡ true → IsShort refusal.Down
  unfolding take_order_call
  short_down down = rw down refl

  pub short_new : w.depot.log.down ≡ false → movement_of (executed_of w.depot.log.records) o.number ≡ None → IsShort refusal.OutOfMemory
  unfolding take_order_call
  short_new up none = rw (up, none) refl

  pub short_known : (known : Movement) → w.depot.log.down ≡ false → movement_of (executed_of w.depot.log.records) o.number ≡ Some known → AgreesWith known.order o
      → IsShort refusal.OutOfMemory
  unfolding take_order_call
  short_known known up found agrees = rw (up, found, agrees_with-holds known.order o agrees) refl

  pub short_other : (known : Movement) → w.depot.log.down ≡ false → movement_of (executed_of w.depot.log.records) o.number ≡ Some known → (AgreesWith known.order o → ⊥)
      → IsShort refusal.Conflict
  unfolding take_order_call
  short_other known up found isnt = rw (up, found, agrees_with-differ known.order o isnt) refl

-- the movement that is found, where its order and the shares that it moved are
pub movement_found : (found : Option Movement) (o : Order) (moved : ℕ) → ◌≡◌ {A = Option (Order × ℕ)} (Some (o, moved)) (option_map (λ (m : Movement). (m.order, m.moved)) found)
    → (m : Movement) × (found ≡ Some m) × (m.order ≡ o)
movement_found None o moved is = absurd (cc is)
movement_found (Some m) o moved is = (m, refl, sym (ap (λ (p : Order × ℕ). p.0) (same_Some (o, moved) (m.order, m.moved) is)))

pub none_found : (found : Option Movement) → ◌≡◌ {A = Option (Order × ℕ)} None (option_map (λ (m : Movement). (m.order, m.moved)) found) → found ≡ None
none_found None is = refl
none_found (Some m) is = absurd (cc is)

-- ---- a call of the depository

-- it leaves this of the depository, and maybe one more packet on the link of replies
module _ (e : Event) (by_commit : (w : World) → IsByCommit e w) (node_is : node_of e ≡ node.Depot) (outcome : Outcome) (r : DepRecord) (left : Shown) (old : World) (d : DepNode)
    (judge : judged e (shown_of old) ≡ Ok (Commits outcome left (depot_failed r (shown_of old)))) where
  -- its record is acknowledged
  pub depot_goes : (replies : List (List ℕ)) → IsTold outcome → shown_of (record old { depot = d; reply_packets = replies }) ≡ left → LogCommits r (Ok tt) old.depot.log d.log
      → Comes e outcome old (record old { depot = d; reply_packets = replies })
  depot_goes replies quiet shown (log, may) =
      commits e old (record old { depot = d; reply_packets = replies }) (by_commit old) outcome left (depot_failed r (shown_of old)) judge shown (rw node_is may) refl (ap knowledge_of log)
      (rw node_is (told_leaves outcome quiet old.depot.log d.log (record { failures = rw log refl; rejected = rw log refl }), untouched_refl old.clear.clear.log))

  -- or it is not
  pub depot_fails : (fault : CommitFault) → depot.IsCommitted r (Err fault) old.depot d → Comes e (outcomes.Refused (commit_refusal fault)) old (record old { depot = d })
  depot_fails commit.OutOfMemory (up, log, openings) =
      by_same e (outcomes.Refused refusal.OutOfMemory) old (record old { depot = d }) (rw (log, openings) refl)
      (not_committed e old (by_commit old) outcome left (depot_failed r (shown_of old)) judge)
  depot_fails commit.Device (up, (log, risen, failed), openings) =
      let new : World = record old { depot = d } in
      let shown : shown_of new ≡ depot_failed r (shown_of old) = rw openings (ap (λ (l : LogShown DepRecord). record (shown_of old) { depot = l }) (ap log_shown log)) in
      fails e old new (by_commit old) outcome left (depot_failed r (shown_of old)) d.log.foresight judge shown (rw node_is failed)
      (rw node_is (ap (λ (s : KeeperKnowledge). record (scene_of new) { depot = s }) (ap knowledge_of log)))
      (rw node_is ((risen, ap (λ (l : LogState DepRecord). l.rejected) log), untouched_refl old.clear.clear.log))

-- what is told of an order that was answered, and what is put on the link of replies
abbrev pub order_told : World → Result Answer DepFault → Outcome
order_told old (Ok a) = answer_told (length old.reply_packets + 1) a
order_told old (Err f) = outcomes.Refused (dep_refusal f)

abbrev pub PutsReply : World → List (List ℕ) → Result Answer DepFault → Type 0
PutsReply old replies (Ok a) = (replies ≡ old.reply_packets ++ reply_frame (answer_reply a) ∷ []) × (reply_spelt (reply_frame (answer_reply a)) ≡ Some (answer_reply a))
PutsReply old replies (Err f) = replies ≡ old.reply_packets

-- an order is answered, and its reply put on the link, in room that was there; or it is refused
pub order_comes : (packet : ℕ) (o : Order) (old : World) (result : Result Answer DepFault) (d : DepNode) (replies : List (List ℕ)) → order_in_packet (at_number old.order_packets packet) ≡ Some o
    → OrderLeaves (take_order_call o old.depot.log.down old.depot.openings old.depot.log.records) result old.depot d → PutsReply old replies result
    → Comes (event.OrderIn packet) (order_told old result) old (record old { depot = d; reply_packets = replies })
order_comes packet o old result d replies held left puts =
    by (take_order_call o old.depot.log.down old.depot.openings old.depot.log.records) (order_is packet o old held) left
  where
    e : Event
    e = event.OrderIn packet

    told : (a : Answer) → IsTold (answer_told (length old.reply_packets + 1) a)
    told (answer.Done r) = tt
    told (answer.Again r) = tt

    refused_by : (fault : CommitFault) → dep_refusal (dep_fault fault) ≡ commit_refusal fault
    refused_by commit.OutOfMemory = refl
    refused_by commit.Device = refl

    next : length (map reply_spelt old.reply_packets) ≡ length old.reply_packets
    next = length-map old.reply_packets reply_spelt

    spelt : (a : Answer) → PutsReply old replies (Ok a) → map reply_spelt replies ≡ map reply_spelt old.reply_packets ++ Some (answer_reply a) ∷ []
    spelt a (are, spells) = rw (are, map-append reply_spelt old.reply_packets (reply_frame (answer_reply a) ∷ []), spells) refl

    by : (deed : Result (Deed DepRecord Answer) DepFault) → judged e (shown_of old) ≡ by_order (shown_of old) deed → OrderLeaves deed result old.depot d
        → Comes e (order_told old result) old (record old { depot = d; reply_packets = replies })
    by (Err f) judge (answer, same) = rw (answer, same, rw answer at puts) (refused e old (dep_refusal f) judge)
    by (Ok (call.Tells a)) judge (answer, same) =
        rw (answer, same)
        (grows e old (record old { reply_packets = replies }) (λ c. refl) (answer_told (length old.reply_packets + 1) a) _ (rw next at judge) (rw (spelt a (rw answer at puts)) refl) refl refl)
    by (Ok (call.Commits r a)) judge (Ok u, answer, (up, (log, may), openings)) =
        rw answer
        (depot_goes e (λ w c. refl) refl (answer_told (length old.reply_packets + 1) a) r _ old d (rw next at judge) replies (told a) (rw (spelt a (rw answer at puts), log, openings) refl) (log, may))
    by (Ok (call.Commits r a)) judge (Err fault, answer, failed) =
        rw (answer, refused_by fault, rw answer at puts) (depot_fails e (λ w c. refl) refl _ r _ old d judge fault failed)

-- ---- a member's own instruction

pub own_comes : (i : Instruction) (result : Result Own OwnFault) (old : World) (d : DepNode)
    → InstructLeaves (instruct_call i old.depot.log.down old.depot.openings old.depot.log.records) result old.depot d
    → Comes (event.Own i) (elim result [ Ok done ↦ own_told i done | Err fault ↦ outcomes.Refused (own_fault_refusal fault) ]) old (record old { depot = d })
unfolding judged
own_comes i result old d left = by (instruct_call i old.depot.log.down old.depot.openings old.depot.log.records) refl left
  where
    quiet : (x : Own) → IsTold (own_told i x)
    quiet own.Done = tt
    quiet own.Again = tt

    refused_by : (fault : CommitFault) → own_fault_refusal (own_fault fault) ≡ commit_refusal fault
    refused_by commit.OutOfMemory = refl
    refused_by commit.Device = refl

    by : (deed : Result (Deed DepRecord Own) OwnFault) → judged (event.Own i) (shown_of old) ≡ by_own i (shown_of old) deed → InstructLeaves deed result old.depot d
        → Comes (event.Own i) (elim result [ Ok done ↦ own_told i done | Err fault ↦ outcomes.Refused (own_fault_refusal fault) ]) old (record old { depot = d })
    by (Err k) judge (answer, same) = rw (answer, same) (refused (event.Own i) old (own_fault_refusal k) judge)
    by (Ok (call.Tells x)) judge (answer, same) = rw (answer, same) (tells (event.Own i) old old (own_told i x) (shown_of old) judge refl refl refl)
    by (Ok (call.Commits r x)) judge (Ok u, answer, (up, (log, may), openings)) =
        rw answer (depot_goes (event.Own i) (λ w c. refl) refl (own_told i x) r _ old d judge old.reply_packets (quiet x) (rw (log, openings) refl) (log, may))
    by (Ok (call.Commits r x)) judge (Err fault, answer, failed) =
        rw (answer, refused_by fault) (depot_fails (event.Own i) (λ w c. refl) refl _ r _ old d judge fault failed)

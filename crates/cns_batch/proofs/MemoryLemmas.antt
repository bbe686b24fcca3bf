-- Over honest keepers of which all is known, an event that is not refused for want of memory comes to what it does where nothing comes between.
use Rattle.std.proofs.Common.{◌≡◌, ◌≢◌, ◌⊎◌, Bool, true, false, List, Option, Some, None, Result, Ok, Err, inl, inr, refl, sym, ap, ◌∙◌, subst}
use Rattle.std.specs.Prelude.{IfOk, unwrap_or}
use Rattle.cns_journal.specs.RecordLog.{LogShown}
use Rattle.cns_ids.specs.Steps.{◌>>=◌}
use Rattle.cns_journal.specs.Keeper.{Forecast, Unforeseen, Succeeds, Fails}
use Rattle.cns_records.specs.Call.{Deed}
use Rattle.cns_records.specs.Call as call
use Rattle.cns_records.specs.declared.clear_record.ClearRecord.{ClearRecord}
use Rattle.cns_records.specs.declared.dep_record.DepRecord.{DepRecord}
use Rattle.cns_records.specs.declared.instruction.Instruction.{Instruction}
use Rattle.cns_records.specs.declared.refusal.Refusal.{Refusal}
use Rattle.cns_records.specs.declared.refusal.Refusal.TheVariants as refusal
use Rattle.cns_depository.specs.declared.fault.Answer.{Answer}
use Rattle.cns_depository.specs.declared.fault.DepFault.{DepFault}
use Rattle.cns_depository.specs.declared.fault.Own.{Own}
use Rattle.cns_depository.specs.declared.fault.OwnFault.{OwnFault}
use Rattle.cns_system.specs.Devices.{node_of}
use Rattle.cns_system.specs.Happens.{Change, Leaves, Grows, Commits, Restarts, Decision, Goes, NoMemory, DeviceFails, ClearReads, DepotReads, by_order, by_own, clear_deed, happens, judged, decided}
use Rattle.cns_system.specs.Lot.{LotState}
use Rattle.cns_system.specs.Scene.{Chance, ComesBack, Decides, Forgets, Scene, KeeperKnowledge, after_commit, comes_to, event_decision, given_back, is_foreseen, known_after, known_of, restart_decision, with_known}
use Rattle.cns_system.specs.Shown.{Shown}
use Rattle.cns_system.specs.declared.event.Event.{Event}
use Rattle.cns_system.specs.declared.event.Event.TheVariants as event
use Rattle.cns_system.specs.declared.event.NodeName.{NodeName}
use Rattle.cns_system.specs.declared.event.NodeName.TheVariants as node
use Rattle.cns_system.specs.declared.outcome.Outcome.{Outcome}
use Rattle.cns_system.specs.declared.outcome.Outcome.TheVariants as outcomes
use Rattle.cns_system.proofs.StepLemmas.{ok_then}

-- ---- what is known of both keepers

-- an honest keeper of which it is known how its next commit ends, and whether an undecided record stands
pub record IsKnown {R : Type 0} (log : LogShown R) (s : KeeperKnowledge) : Type 0 where
  pub honest : s.honest ≡ true
  pub foreseen : is_foreseen s.foresight.next ≡ true
  pub stands : (log.tried ≡ None) ⊎ ((stands : Bool) × (s.foresight.stands ≡ Some stands))

abbrev pub AreKnown : Scene → Type 0
AreKnown s = IsKnown s.shown.clear s.clear × IsKnown s.shown.depot s.depot

-- another log with the same record undecided
known_same : {R : Type 0} {old new : LogShown R} {s : KeeperKnowledge} → new.tried ≡ old.tried → IsKnown old s → IsKnown new s
known_same same known = record { honest = known.honest; foreseen = known.foreseen; stands = rw same known.stands }

-- a commit failed, as was planned
failed_known : {R : Type 0} {log : LogShown R} (s : KeeperKnowledge) (stands : Bool) → s.honest ≡ true → s.foresight.next ≡ Fails stands → IsKnown log (record s { foresight = after_commit DeviceFails s.foresight })
failed_known s stands is next = record { honest = is; foreseen = rw next refl; stands = inr (stands, rw next refl) }

-- a journal was read again
reread_known : {R : Type 0} {log read : LogShown R} {s : KeeperKnowledge} → read.tried ≡ None → IsKnown log s → IsKnown read (record s { foresight = record s.foresight { stands = None } })
reread_known none known = record { honest = known.honest; foreseen = known.foreseen; stands = inl none }

known_of_is : (name : NodeName) (s : Scene) → AreKnown s → is_foreseen (known_of name s).next ≡ true
known_of_is node.Clear s known = known.0.foreseen
known_of_is node.Depot s known = known.1.foreseen

-- ---- what a change leaves of the records whose commits failed

-- both stay
abbrev TriedStay : Shown → Shown → Type 0
TriedStay old new = (new.clear.tried ≡ old.clear.tried) × (new.depot.tried ≡ old.depot.tried)

-- that of the other node stays
abbrev OtherStays : NodeName → Shown → Shown → Type 0
OtherStays node.Clear old new = new.depot.tried ≡ old.depot.tried
OtherStays node.Depot old new = new.clear.tried ≡ old.clear.tried

-- only a commit that fails leaves a record undecided, that of this node
abbrev LeavesTried : NodeName → Shown → Change → Type 0
LeavesTried name w (Leaves outcome left) = TriedStay w left
LeavesTried name w (Grows outcome left) = TriedStay w left
LeavesTried name w (Commits outcome left failed) = TriedStay w left × OtherStays name w failed
LeavesTried name w (Restarts other) = ⊥

module _ (w : Shown) where
  clear_leaves : {X : Type 0} (told : X → Outcome) (lots_after : List LotState → List LotState) (deed : Result (Deed ClearRecord X) Refusal)
      → IfOk (deed >>= λ d. Ok (clear_deed told lots_after w d)) (LeavesTried node.Clear w)
  clear_leaves told lots_after (Err r) = tt
  clear_leaves told lots_after (Ok (call.Tells x)) = (refl, refl)
  clear_leaves told lots_after (Ok (call.Commits r x)) = ((refl, refl), refl)

  order_leaves : (deed : Result (Deed DepRecord Answer) DepFault) → IfOk (by_order w deed) (LeavesTried node.Depot w)
  order_leaves (Err fault) = tt
  order_leaves (Ok (call.Tells a)) = (refl, refl)
  order_leaves (Ok (call.Commits e a)) = ((refl, refl), refl)

  own_leaves : (i : Instruction) (deed : Result (Deed DepRecord Own) OwnFault) → IfOk (by_own i w deed) (LeavesTried node.Depot w)
  own_leaves i (Err fault) = tt
  own_leaves i (Ok (call.Tells o)) = (refl, refl)
  own_leaves i (Ok (call.Commits e o)) = ((refl, refl), refl)

-- an event that is no restart
abbrev IsPlain : Event → Type 0
IsPlain (event.Restart name) = ⊥
IsPlain _ = Unit {0}

plain_leaves : (e : Event) (w : Shown) → IsPlain e → IfOk (judged e w) (LeavesTried (node_of e) w)
unfolding judged
plain_leaves (event.Restart name) w plain = absurd plain
plain_leaves e w plain = search (ok_then, clear_leaves, order_leaves, own_leaves)

-- ---- an event that is no restart

-- what an event comes to by what is judged, with what is known of the node's keeper
abbrev ended : Chance → Decision → NodeName → Scene → Result Change Refusal → Outcome × Scene
ended chance d name s j =
    let (outcome, shown) = decided d s.shown j in (outcome, with_known name (known_after chance d j outcome (known_of name s)) (record s { shown = shown }))

comes_plain : (chance : Chance) (e : Event) (s : Scene) → IsPlain e
    → comes_to chance e s ≡ ended chance (event_decision (known_of (node_of e) s).next chance) (node_of e) s (judged e s.shown)
unfolding comes_to happens
comes_plain chance (event.Restart name) s plain = absurd plain
comes_plain chance _ s plain = refl

-- at a commit there is no memory, or it ends as is known
commit_either : (next : Forecast) (chance : Chance) → is_foreseen next ≡ true
    → (event_decision next chance ≡ NoMemory) ⊎ (event_decision next chance ≡ event_decision next (Decides Goes))
commit_either Unforeseen chance is = absurd (cc is)
commit_either next (Decides NoMemory) is = inl refl
commit_either Succeeds _ is = inr refl
commit_either (Fails stands) _ is = inr refl

-- as is known: nothing is in its way, or its failure was planned
abbrev IsForeseen : Forecast → Decision → Type 0
IsForeseen next d = (d ≡ Goes) ⊎ ((d ≡ DeviceFails) × ((stands : Bool) × (next ≡ Fails stands)))

foreseen_goes : (next : Forecast) → is_foreseen next ≡ true → IsForeseen next (event_decision next (Decides Goes))
foreseen_goes Unforeseen is = absurd (cc is)
foreseen_goes Succeeds is = inl refl
foreseen_goes (Fails stands) is = inr (refl, (stands, refl))

module _ (chance : Chance) (name : NodeName) (s : Scene) where
  -- want of memory refuses, or decides nothing
  ended_same : (d as_is : Decision) (j : Result Change Refusal) → IfOk j (LeavesTried name s.shown)
      → (ended chance d name s j).0 ≢ outcomes.Refused refusal.OutOfMemory → (d ≡ NoMemory) ⊎ (d ≡ as_is) → ended chance d name s j ≡ ended (Decides Goes) as_is name s j
  ended_same d as_is (Err r) leaves memory either = refl
  ended_same d as_is (Ok (Leaves outcome left)) leaves memory either = refl
  ended_same d as_is (Ok (Restarts other)) leaves memory either = absurd leaves
  ended_same d as_is (Ok (Grows outcome left)) leaves memory (inl is) = absurd (memory (rw is refl))
  ended_same d as_is (Ok (Commits outcome left failed)) leaves memory (inl is) = absurd (memory (rw is refl))
  ended_same d as_is (Ok _) leaves memory (inr is) = rw is refl

both_known : (name : NodeName) (s : Scene) (left : Shown) → AreKnown s → TriedStay s.shown left → AreKnown (with_known name (known_of name s) (record s { shown = left }))
both_known node.Clear s left known stay = (known_same stay.0 known.0, known_same stay.1 known.1)
both_known node.Depot s left known stay = (known_same stay.0 known.0, known_same stay.1 known.1)

failed_as_known : (name : NodeName) (s : Scene) (failed : Shown) (stands : Bool) → AreKnown s → OtherStays name s.shown failed → (known_of name s).next ≡ Fails stands
    → AreKnown (with_known name (after_commit DeviceFails (known_of name s)) (record s { shown = failed }))
failed_as_known node.Clear s failed stands known stays next = (failed_known s.clear stands known.0.honest next, known_same stays known.1)
failed_as_known node.Depot s failed stands known stays next = (known_same stays known.0, failed_known s.depot stands known.1.honest next)

-- all is known after it
known_left : (name : NodeName) (s : Scene) (d : Decision) (j : Result Change Refusal) → AreKnown s → IsForeseen (known_of name s).next d → IfOk j (LeavesTried name s.shown)
    → AreKnown (ended (Decides Goes) d name s j).1
known_left name s d (Err r) known is leaves = both_known name s s.shown known (refl, refl)
known_left name s d (Ok (Leaves outcome left)) known is leaves = both_known name s left known leaves
known_left name s d (Ok (Grows outcome left)) known (inl is) leaves = rw is (both_known name s left known leaves)
known_left name s d (Ok (Grows outcome left)) known (inr (is, planned)) leaves = rw is (both_known name s left known leaves)
known_left name s d (Ok (Commits outcome left failed)) known (inl is) leaves = rw is (both_known name s left known leaves.0)
known_left name s d (Ok (Commits outcome left failed)) known (inr (is, (stands, next))) leaves = rw is (failed_as_known name s failed stands known leaves.1 next)
known_left name s d (Ok (Restarts other)) known is leaves = absurd leaves

-- an event comes to what it does where nothing comes between, and all is known after it
abbrev pub IsAlone : Chance → Event → Scene → Type 0
IsAlone chance e s = (comes_to chance e s ≡ comes_to (Decides Goes) e s) × AreKnown (comes_to chance e s).1

plain_alone : (chance : Chance) (e : Event) (s : Scene) → IsPlain e → AreKnown s → (comes_to chance e s).0 ≢ outcomes.Refused refusal.OutOfMemory → IsAlone chance e s
plain_alone chance e s plain known memory =
    let name = node_of e in
    let next = (known_of name s).next in
    let j = judged e s.shown in
    let as_is = event_decision next (Decides Goes) in
    let foreseen = known_of_is name s known in
    let leaves = plain_leaves e s.shown plain in
    let told = comes_plain chance e s plain in
    let same = ended_same chance name s (event_decision next chance) as_is j leaves (λ is. memory (ap (λ (c : Outcome × Scene). c.0) told ∙ is)) (commit_either next chance foreseen) in
    let left = known_left name s as_is j known (foreseen_goes next foreseen) leaves in
    (told ∙ same ∙ sym (comes_plain (Decides Goes) e s plain), subst (λ (c : Outcome × Scene). AreKnown c.1) (sym (told ∙ same)) left)

-- ---- a restart

back_none : {R : Type 0} (comes : Bool) (records : List R) → given_back None comes records ≡ records
back_none true records = refl
back_none false records = refl

back_same : {R : Type 0} (tried : Option R) (stands : Option Bool) (records : List R) (a b : Bool) → (tried ≡ None) ⊎ ((known : Bool) × (stands ≡ Some known))
    → given_back tried (unwrap_or stands a) records ≡ given_back tried (unwrap_or stands b) records
back_same tried stands records a b (inl none) = rw none (back_none (unwrap_or stands a) records ∙ sym (back_none (unwrap_or stands b) records))
back_same tried stands records a b (inr (known, is)) = rw is refl

-- the records that a journal gives back
abbrev given_of : {R : Type 0} → LogShown R → KeeperKnowledge → List R
given_of log s = given_back log.tried (unwrap_or s.foresight.stands false) log.records

restart_either : {R : Type 0} (reads : List R → Decision) (log : LogShown R) (s : KeeperKnowledge) (chance : Chance) → IsKnown log s
    → (restart_decision reads s log.tried log.records chance ≡ NoMemory) ⊎ (restart_decision reads s log.tried log.records chance ≡ reads (given_of log s))
restart_either reads log s Forgets known = inl refl
restart_either reads log s (Decides NoMemory) known = inl refl
restart_either reads log s ComesBack known = inr (rw known.honest (ap reads (back_same log.tried s.foresight.stands log.records true false known.stands)))
restart_either reads log s (Decides DeviceFails) known = inr (rw (known.honest, known.foreseen) refl)
restart_either reads log s (Decides d) known = inr (rw known.honest refl)

restart_goes : {R : Type 0} (reads : List R → Decision) (log : LogShown R) (s : KeeperKnowledge) → IsKnown log s
    → restart_decision reads s log.tried log.records (Decides Goes) ≡ reads (given_of log s)
restart_goes reads log s known = rw known.honest refl

restart_alone : (chance : Chance) (name : NodeName) (s : Scene) → AreKnown s → (comes_to chance (event.Restart name) s).0 ≢ outcomes.Refused refusal.OutOfMemory
    → IsAlone chance (event.Restart name) s
unfolding comes_to happens judged
restart_alone chance node.Clear s known memory = elim (restart_either ClearReads s.shown.clear s.clear chance known.0) [
  | inl short ↦ absurd (memory (rw short refl))
  | inr is ↦ (rw (is, restart_goes ClearReads s.shown.clear s.clear known.0) refl, rw is (reread_known refl known.0, known.1))
]
restart_alone chance node.Depot s known memory = elim (restart_either DepotReads s.shown.depot s.depot chance known.1) [
  | inl short ↦ absurd (memory (rw short refl))
  | inr is ↦ (rw (is, restart_goes DepotReads s.shown.depot s.depot known.1) refl, rw is (known.0, reread_known refl known.1))
]

pub comes_alone : (chance : Chance) (e : Event) (s : Scene) → AreKnown s → (comes_to chance e s).0 ≢ outcomes.Refused refusal.OutOfMemory → IsAlone chance e s
comes_alone chance (event.Restart name) s known memory = restart_alone chance name s known memory
comes_alone chance e s known memory = plain_alone chance e s tt known memory

-- An event comes to what it does by a chance, once it is known what it comes to by what there is.
use Rattle.std.proofs.Common.{◌≡◌, ◌≢◌, ◌∙◌, Result, Ok, Err, refl, sym, ap, subst}
use Rattle.cns_journal.specs.Keeper.{FailsTo, Forecast, Foresight, MaySucceed, Succeeds, Fails}
use Rattle.cns_journal.specs.RecordLog.{LogState}
use Rattle.cns_records.specs.declared.refusal.Refusal.{Refusal}
use Rattle.cns_records.specs.declared.refusal.Refusal.TheVariants as refusal
use Rattle.cns_system.specs.Devices.{AreUntouched, DevicesLeave, IsUntouched, node_of}
use Rattle.cns_system.specs.Happens.{Change, Leaves, Grows, Commits, Decision, Goes, NoMemory, DeviceFails, changed, happens, judged, decided}
use Rattle.cns_system.specs.Scene.{Chance, Comes, Decides, Scene, after_commit, comes_to, event_decision, decision_at, known_after, known_of, scene_of, knowledge_of, with_known}
use Rattle.cns_system.specs.Shown.{Shown, shown_of}
use Rattle.cns_system.specs.World.{World}
use Rattle.cns_system.specs.declared.event.Event.{Event}
use Rattle.cns_system.specs.declared.event.NodeName.{NodeName}
use Rattle.cns_system.specs.declared.event.NodeName.TheVariants as node
use Rattle.cns_system.specs.declared.outcome.Outcome.{Outcome}
use Rattle.cns_system.specs.declared.outcome.Outcome.TheVariants as outcomes

-- ---- the devices

pub untouched_refl : {R : Type 0} (log : LogState R) → IsUntouched log log
untouched_refl log = record { failures = refl; rejected = refl }

untouched_same : {R : Type 0} (old new : LogState R) → new ≡ old → IsUntouched old new
untouched_same old new same = subst (IsUntouched old) (sym same) (untouched_refl old)

-- both keepers, where the logs of their nodes are the same
logs_untouched : (old new : World) → new.clear.clear.log ≡ old.clear.clear.log → new.depot.log ≡ old.depot.log → AreUntouched old new
logs_untouched old new clear depot = record { clear = untouched_same _ _ clear; depot = untouched_same _ _ depot }

-- ---- what is known of the keepers

-- what is known of a node's keeper instead, and what the world shows
abbrev pub scene_with : Event → Foresight → Shown → World → Scene
scene_with e f shown w = with_known (node_of e) f (record (scene_of w) { shown = shown })

abbrev pub foresight_at : Event → World → Foresight
foresight_at e w = known_of (node_of e) (scene_of w)

-- ---- what is decided

-- an event that is no restart is decided as a commit is
abbrev pub IsByCommit : Event → World → Type 0
IsByCommit e w = (chance : Chance) → decision_at chance e (scene_of w) ≡ event_decision (foresight_at e w).next chance

-- the decision where all is as foreseen
goes_on : (next : Forecast) → MaySucceed next → event_decision next (Decides Goes) ≡ Goes
goes_on (Fails stands) may = absurd may
goes_on _ may = refl

has_room : (next : Forecast) → event_decision next (Decides Goes) ≢ NoMemory
has_room (Fails stands) = λ e. absurd (cc e)
has_room _ = λ e. absurd (cc e)

-- the device fails where that is foreseen, and where nothing is
device_fails : (next : Forecast) (new : Foresight) → FailsTo next new → event_decision next (Decides DeviceFails) ≡ DeviceFails
device_fails Succeeds new failed = absurd failed
device_fails _ new failed = refl

known_after_failure : (old new : Foresight) → FailsTo old.next new → new ≡ after_commit DeviceFails old
known_after_failure old new failed = by old.next failed
  where
    by : (next : Forecast) → FailsTo next new → new ≡ after_commit DeviceFails (record { next = next; stands = old.stands })
    by Succeeds failed = absurd failed
    by _ failed = failed

grows_in : (d : Decision) (w left : Shown) (outcome : Outcome) → d ≢ NoMemory → changed d w (Grows outcome left) ≡ (outcome, left)
grows_in NoMemory w left outcome room = absurd (room refl)
grows_in _ w left outcome room = refl

-- ---- what it comes to

module _ (e : Event) (old new : World) where
  -- by a chance, where the decision, what happens by it and what is then known are these
  pub by_chance : (chance : Chance) (d : Decision) (j : Result Change Refusal) (outcome : Outcome) (f : Foresight) → decision_at chance e (scene_of old) ≡ d → judged e (shown_of old) ≡ j
      → decided d (shown_of old) j ≡ (outcome, shown_of new) → known_after chance d j outcome (foresight_at e old) ≡ f → scene_of new ≡ scene_with e f (shown_of new) old
      → DevicesLeave j (node_of e) outcome old new → Comes e outcome old new
  unfolding comes_to happens
  by_chance chance d j outcome f by is settles known scene devices = (
    chance,
    rw is devices,
    rw (by, is, settles, known) (ap (λ (s : Scene). (outcome, s)) (sym scene)),
  )

  -- the scene where nothing that is known changed
  same_scene : knowledge_of new.clear.clear.log ≡ knowledge_of old.clear.clear.log → knowledge_of new.depot.log ≡ knowledge_of old.depot.log
      → scene_of new ≡ scene_with e (foresight_at e old) (shown_of new) old
  same_scene clear depot = by (node_of e)
    where
      by : (name : NodeName) → scene_of new ≡ with_known name (known_of name (scene_of old)) (record (scene_of old) { shown = shown_of new })
      by node.Clear = rw (clear, depot) refl
      by node.Depot = rw (clear, depot) refl

  -- no record is committed, and the nodes' logs stay
  pub tells : (outcome : Outcome) (left : Shown) → judged e (shown_of old) ≡ Ok (Leaves outcome left) → shown_of new ≡ left → new.clear.clear.log ≡ old.clear.clear.log
      → new.depot.log ≡ old.depot.log → Comes e outcome old new
  tells outcome left is shown clear depot =
      by_chance (Decides Goes) (decision_at (Decides Goes) e (scene_of old)) (Ok (Leaves outcome left)) outcome (foresight_at e old) refl is (ap (λ (w : Shown). (outcome, w)) (sym shown)) refl
      (same_scene (ap knowledge_of clear) (ap knowledge_of depot)) (logs_untouched old new clear depot)

  pub grows : IsByCommit e old → (outcome : Outcome) (left : Shown) → judged e (shown_of old) ≡ Ok (Grows outcome left) → shown_of new ≡ left
      → new.clear.clear.log ≡ old.clear.clear.log → new.depot.log ≡ old.depot.log → Comes e outcome old new
  grows by_commit outcome left is shown clear depot =
      let d = event_decision (foresight_at e old).next (Decides Goes) in
      by_chance (Decides Goes) d (Ok (Grows outcome left)) outcome (foresight_at e old) (by_commit (Decides Goes)) is
      (grows_in d (shown_of old) left outcome (has_room (foresight_at e old).next) ∙ ap (λ (w : Shown). (outcome, w)) (sym shown)) refl
      (same_scene (ap knowledge_of clear) (ap knowledge_of depot)) (logs_untouched old new clear depot)

  -- a record is acknowledged
  pub commits : IsByCommit e old → (outcome : Outcome) (left failed : Shown) → judged e (shown_of old) ≡ Ok (Commits outcome left failed) → shown_of new ≡ left
      → MaySucceed (foresight_at e old).next → knowledge_of new.clear.clear.log ≡ knowledge_of old.clear.clear.log → knowledge_of new.depot.log ≡ knowledge_of old.depot.log
      → DevicesLeave (Ok (Commits outcome left failed)) (node_of e) outcome old new → Comes e outcome old new
  commits by_commit outcome left failed is shown may clear depot devices =
      by_chance (Decides Goes) Goes (Ok (Commits outcome left failed)) outcome (foresight_at e old) (by_commit (Decides Goes) ∙ goes_on (foresight_at e old).next may) is
      (ap (λ (w : Shown). (outcome, w)) (sym shown)) refl (same_scene clear depot) devices

  -- the device failed
  pub fails : IsByCommit e old → (outcome : Outcome) (left failed : Shown) (f : Foresight) → judged e (shown_of old) ≡ Ok (Commits outcome left failed) → shown_of new ≡ failed
      → FailsTo (foresight_at e old).next f → scene_of new ≡ scene_with e f (shown_of new) old → DevicesLeave (Ok (Commits outcome left failed)) (node_of e) (outcomes.Refused refusal.Device) old new
      → Comes e (outcomes.Refused refusal.Device) old new
  fails by_commit outcome left failed f is shown device scene devices =
      by_chance (Decides DeviceFails) DeviceFails (Ok (Commits outcome left failed)) (outcomes.Refused refusal.Device) f
      (by_commit (Decides DeviceFails) ∙ device_fails (foresight_at e old).next f device) is
      (ap (λ (w : Shown). (outcomes.Refused refusal.Device, w)) (sym shown)) (sym (known_after_failure (foresight_at e old) f device)) scene devices

module _ (e : Event) (w : World) where
  -- it is refused by what there is
  pub refused : (r : Refusal) → judged e (shown_of w) ≡ Err r → Comes e (outcomes.Refused r) w w
  refused r is =
      by_chance e w w (Decides Goes) (decision_at (Decides Goes) e (scene_of w)) (Err r) (outcomes.Refused r) (foresight_at e w) refl is refl refl
      (same_scene e w w refl refl) (logs_untouched w w refl refl)

  -- or there is no memory for it
  pub not_grown : IsByCommit e w → (outcome : Outcome) (left : Shown) → judged e (shown_of w) ≡ Ok (Grows outcome left) → Comes e (outcomes.Refused refusal.OutOfMemory) w w
  not_grown by_commit outcome left is =
      by_chance e w w (Decides NoMemory) NoMemory (Ok (Grows outcome left)) (outcomes.Refused refusal.OutOfMemory) (foresight_at e w) (by_commit (Decides NoMemory)) is refl refl
      (same_scene e w w refl refl) (logs_untouched w w refl refl)

  pub not_committed : IsByCommit e w → (outcome : Outcome) (left failed : Shown) → judged e (shown_of w) ≡ Ok (Commits outcome left failed)
      → Comes e (outcomes.Refused refusal.OutOfMemory) w w
  not_committed by_commit outcome left failed is =
      by_chance e w w (Decides NoMemory) NoMemory (Ok (Commits outcome left failed)) (outcomes.Refused refusal.OutOfMemory) (foresight_at e w) (by_commit (Decides NoMemory)) is refl refl
      (same_scene e w w refl refl) (none_failed (node_of e))
    where
      none_failed : (name : NodeName) → DevicesLeave (Ok (Commits outcome left failed)) name (outcomes.Refused refusal.OutOfMemory) w w
      none_failed node.Clear = (untouched_refl w.clear.clear.log, untouched_refl w.depot.log)
      none_failed node.Depot = (untouched_refl w.depot.log, untouched_refl w.clear.clear.log)

-- what a change leaves that changes nothing
pub by_same : (e : Event) (outcome : Outcome) (old new : World) → new ≡ old → Comes e outcome old old → Comes e outcome old new
by_same e outcome old new same comes = subst (Comes e outcome old) (sym same) comes

-- What is so of what is shown and of an accepted change is so of whatever happens at an event.
use Rattle.std.proofs.Common.{◌≡◌, ◌∙◌, Result, Ok, Err, refl, sym, ap, subst, inl}
use Rattle.cns_journal.specs.Keeper.{Foresight}
use Rattle.std.specs.Prelude.{◌⊎◌, IfErr, IfOk}
use Rattle.cns_records.specs.declared.refusal.Refusal.{Refusal}
use Rattle.cns_records.specs.declared.refusal.Refusal.TheVariants as refusal
use Rattle.cns_system.specs.Devices.{node_of}
use Rattle.cns_system.specs.Happens.{Change, Leaves, Grows, Commits, Restarts, Decision, NoMemory, DeviceFails, happens, judged, node_restarted, decided}
use Rattle.cns_system.specs.Scene.{Chance, Comes, Scene, comes_to, decision_at, known_after, known_of, scene_of, with_known}
use Rattle.cns_system.specs.Shown.{Shown, shown_of}
use Rattle.cns_system.specs.World.{World}
use Rattle.cns_system.specs.declared.event.Event.{Event}
use Rattle.cns_system.specs.declared.event.NodeName.{NodeName}
use Rattle.cns_system.specs.declared.event.NodeName.TheVariants as node
use Rattle.cns_system.specs.declared.outcome.Outcome.{Outcome}
use Rattle.cns_system.specs.declared.outcome.Outcome.TheVariants as outcomes

module _ (P : Outcome → Shown → Type 0) (d : Decision) (w : Shown) where
  -- this is so of what a change may leave, whatever is decided but at a restart
  abbrev pub Holds : Change → Type 0
  Holds (Leaves outcome left) = P outcome left
  Holds (Grows outcome left) = P outcome left
  Holds (Commits outcome left failed) = P outcome left × P (outcomes.Refused refusal.Device) failed
  Holds (Restarts name) = P (node_restarted d name w).0 (node_restarted d name w).1

  -- and of what is told where memory is wanting or what there is refuses it
  pub checked_keeps : (e : Event) → IfErr (judged e w) (λ r. P (outcomes.Refused r) w) → P (outcomes.Refused refusal.OutOfMemory) w → IfOk (judged e w) Holds → P (happens d e w).0 (happens d e w).1
  unfolding happens
  checked_keeps e refused short next = by (judged e w) refused next
    where
      of : (d' : Decision) (c : Change) → d ≡ d' → Holds c → P (decided d w (Ok c)).0 (decided d w (Ok c)).1
      of NoMemory (Grows outcome left) is holds = rw is short
      of _ (Grows outcome left) is holds = rw is holds
      of NoMemory (Commits outcome left failed) is holds = rw is short
      of DeviceFails (Commits outcome left failed) is holds = rw is holds.1
      of _ (Commits outcome left failed) is holds = rw is holds.0
      of d' (Leaves outcome left) is holds = holds
      of d' (Restarts name) is holds = holds

      by : (j : Result Change Refusal) → IfErr j (λ r. P (outcomes.Refused r) w) → IfOk j Holds → P (decided d w j).0 (decided d w j).1
      by (Err r) refused next = refused
      by (Ok c) refused next = of d c refl next

-- ---- what an event that comes tells of the function

-- what happened, by this decision; and whether each keeper is honest stayed
pub record Happened (e : Event) (outcome : Outcome) (old new : World) : Type 0 where
  pub chance : Chance
  pub is : happens (decision_at chance e (scene_of old)) e (shown_of old) ≡ (outcome, shown_of new)
  pub clear_honest : new.clear.clear.log.honest ≡ old.clear.clear.log.honest
  pub depot_honest : new.depot.log.honest ≡ old.depot.log.honest

honest_stays : (name : NodeName) (f : Foresight) (s : Scene) → ((with_known name f s).clear.honest ≡ s.clear.honest) × ((with_known name f s).depot.honest ≡ s.depot.honest)
honest_stays node.Clear f s = (refl, refl)
honest_stays node.Depot f s = (refl, refl)

shown_stays : (name : NodeName) (f : Foresight) (s : Scene) → (with_known name f s).shown ≡ s.shown
shown_stays node.Clear f s = refl
shown_stays node.Depot f s = refl

-- whatever an event comes to by chance, it comes to by a decision
pub happened : (e : Event) (outcome : Outcome) (old new : World) → Comes e outcome old new
    → Happened e outcome old new
unfolding comes_to
happened e outcome old new (chance, devices, is) =
    let d : Decision = decision_at chance e (scene_of old) in
    let done : Outcome × Shown = happens d e (shown_of old) in
    let f : Foresight = known_after chance d (judged e (shown_of old)) done.0 (known_of (node_of e) (scene_of old)) in
    let left : Scene = record (scene_of old) { shown = done.1 } in
    let scene : with_known (node_of e) f left ≡ scene_of new = ap (λ (p : Outcome × Scene). p.1) is in
    let honest = honest_stays (node_of e) f left in
    record {
      chance = chance;
      is = pair_is done outcome (shown_of new) (ap (λ (p : Outcome × Scene). p.0) is) (sym (shown_stays (node_of e) f left) ∙ ap (λ (s : Scene). s.shown) scene);
      clear_honest = sym (ap (λ (s : Scene). s.clear.honest) scene) ∙ honest.0;
      depot_honest = sym (ap (λ (s : Scene). s.depot.honest) scene) ∙ honest.1;
    }
  where
    pair_is : (p : Outcome × Shown) (o : Outcome) (w : Shown) → p.0 ≡ o → p.1 ≡ w → p ≡ (o, w)
    pair_is p o w first second = rw (← first, ← second) refl

-- what is so of each refusal by what there is, of a want of memory, and of what an accepted event may leave, is so of what comes
pub comes_keeps : (P : Outcome → Shown → Type 0) (e : Event) (outcome : Outcome) (old new : World) → Comes e outcome old new → IfErr (judged e (shown_of old)) (λ r. P (outcomes.Refused r) (shown_of old))
    → P (outcomes.Refused refusal.OutOfMemory) (shown_of old) → ((chance : Chance) → IfOk (judged e (shown_of old)) (Holds P (decision_at chance e (scene_of old)) (shown_of old)))
    → P outcome (shown_of new)
comes_keeps P e outcome old new comes refused short accepted =
    let h = happened e outcome old new comes in
    subst (λ (p : Outcome × Shown). P p.0 p.1) h.is (checked_keeps P (decision_at h.chance e (scene_of old)) (shown_of old) e refused short (accepted h.chance))

-- what is so of each refusal is so of those by what there is
pub refused_keeps : {A : Type 0} (P : Refusal → Type 0) (j : Result A Refusal) → ((r : Refusal) → P r) → IfErr j P
refused_keeps P (Ok a) all = tt
refused_keeps P (Err r) all = all r

-- an event is refused, and leaves the lots
pub record IsRefused (w : Shown) (outcome : Outcome) (left : Shown) : Type 0 where
  pub refusal : Refusal
  pub is : outcome ≡ outcomes.Refused refusal
  pub lots : left.lots ≡ w.lots
  pub open_lots : left.open_lots ≡ w.open_lots

-- an event is refused so, or this is so of what it tells and leaves; one of both is so of an event that comes, where it is so of each change
abbrev pub OrRefused : (Shown → Outcome → Shown → Type 0) → Shown → Outcome → Shown → Type 0
OrRefused P w outcome left = IsRefused w outcome left ⊎ P w outcome left

pub comes_told : (P : Shown → Outcome → Shown → Type 0) (e : Event) (outcome : Outcome) (old new : World) → Comes e outcome old new
    → ((d : Decision) → IfOk (judged e (shown_of old)) (Holds (OrRefused P (shown_of old)) d (shown_of old))) → OrRefused P (shown_of old) outcome (shown_of new)
comes_told P e outcome old new comes accepted =
    comes_keeps (OrRefused P w) e outcome old new comes (refused_keeps (λ r. OrRefused P w (outcomes.Refused r) w) (judged e w) refuses) (refuses refusal.OutOfMemory)
    (λ chance. accepted (decision_at chance e (scene_of old)))
  where
    w : Shown
    w = shown_of old

    refuses : (r : Refusal) → OrRefused P w (outcomes.Refused r) w
    refuses r = inl (record { refusal = r; is = refl; lots = refl; open_lots = refl })

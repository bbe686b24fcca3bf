-- A keeper is who keeps a node's journal; it is honest where its journal reads back what it acknowledged. Both nodes and the link with what is known beforehand of the two keepers, and what an event comes to by what comes between (this
-- project's own rules).
use Rattle.std.specs.Prelude.{◌≡◌, Bool, true, false, not, List, ◌∷◌, Option, Some, None, Result, Ok, Err, if◌then◌else◌, unwrap_or}
use Rattle.cns_journal.specs.Keeper.{Foresight, Forecast, Unforeseen, Succeeds, Fails}
use Rattle.cns_journal.specs.RecordLog.{LogState}
use Rattle.cns_journal.specs.declared.keeper.NotPlanned.{NotPlanned}
use Rattle.cns_records.specs.declared.refusal.Refusal.{Refusal}
use Rattle.cns_records.specs.declared.refusal.Refusal.TheVariants as refusal
use Rattle.cns_system.specs.Devices.{DevicesLeave, node_of}
use Rattle.cns_system.specs.Happens.{Change, Commits, Restarts, Decision, Goes, NoMemory, DeviceFails, ClearReads, DepotReads, happens, judged}
use Rattle.cns_system.specs.Shown.{Shown, shown_of}
use Rattle.cns_system.specs.World.{World}
use Rattle.cns_system.specs.declared.event.Event.{Event}
use Rattle.cns_system.specs.declared.event.Event.TheVariants as event
use Rattle.cns_system.specs.declared.event.NodeName.{NodeName}
use Rattle.cns_system.specs.declared.event.NodeName.TheVariants as node
use Rattle.cns_system.specs.declared.outcome.Outcome.{Outcome}
use Rattle.cns_system.specs.declared.outcome.Outcome.TheVariants as outcomes

-- whether a keeper is honest, and what is known beforehand of it
pub record KeeperKnowledge : Type 0 where
  pub honest : Bool
  pub foresight : Foresight

-- both nodes and the link, and what is known beforehand of the keeper of the clearing node and of the depository's
pub record Scene : Type 0 where
  pub shown : Shown
  pub clear : KeeperKnowledge
  pub depot : KeeperKnowledge

abbrev pub knowledge_of : {R : Type 0} → LogState R → KeeperKnowledge
knowledge_of log = record { honest = log.honest; foresight = log.foresight }

abbrev pub scene_of : World → Scene
scene_of w = record { shown = shown_of w; clear = knowledge_of w.clear.clear.log; depot = knowledge_of w.depot.log }

-- what is known beforehand of a node's keeper
abbrev pub known_of : NodeName → Scene → Foresight
known_of name s = elim name [ node.Clear ↦ s.clear.foresight | node.Depot ↦ s.depot.foresight ]

-- this is known of a node's keeper instead
abbrev pub with_known : NodeName → Foresight → Scene → Scene
with_known node.Clear f s = record s { clear = record s.clear { foresight = f } }
with_known node.Depot f s = record s { depot = record s.depot { foresight = f } }

-- what memory and the devices do at an event, as far as it is not known beforehand:
--   `ComesBack`: at a restart of an honest keeper of whose undecided record nothing is known, that record comes back
--   `Forgets`: at a restart there is no memory once the journal was read, so that nothing is known of the undecided record any more
--   `Decides`: the surroundings decide so, `Goes` where nothing comes between: at an event that is no restart and of whose commit something is known,
--   only that there is no memory; at a restart of an honest keeper that too, and, where nothing is known of the keeper, that its device fails
pub data Chance : Type 0 where
  ComesBack : Chance
  Forgets : Chance
  Decides : Decision → Chance

-- the decision at an event that is no restart, by what is known of its commit; where nothing is, whatever it is
abbrev pub event_decision : Forecast → Chance → Decision
event_decision next (Decides NoMemory) = NoMemory
event_decision (Fails stands) chance = DeviceFails
event_decision Unforeseen (Decides d) = d
event_decision _ chance = Goes

-- whether something is known of a keeper's commits
abbrev pub is_foreseen : Forecast → Bool
is_foreseen next = elim next [ Unforeseen ↦ false | _ ↦ true ]

-- the records, and then the undecided one where it comes back
abbrev pub given_back : {R : Type 0} → Option R → Bool → List R → List R
given_back tried comes records = if comes then elim tried [ None ↦ records | Some r ↦ r ∷ records ] else records

-- whether the device of an honest keeper fails at a restart, which it may where nothing is known of the keeper
abbrev pub restart_fails : Forecast → Chance → Bool
restart_fails next chance = elim chance [ Decides DeviceFails ↦ not (is_foreseen next) | _ ↦ false ]

-- the decision at a restart: there is no memory, the device of an honest keeper fails, or it gives its records back, with the undecided one where that is
-- known to stand, or comes back; a keeper that is not honest may give anything
abbrev pub restart_decision : {R : Type 0} → (List R → Decision) → KeeperKnowledge → Option R → List R → Chance → Decision
restart_decision reads s tried records Forgets = NoMemory
restart_decision reads s tried records (Decides NoMemory) = NoMemory
restart_decision reads s tried records chance =
    if not s.honest then elim chance [ Decides d ↦ d | _ ↦ Goes ] else
    if restart_fails s.foresight.next chance then DeviceFails else
    reads (given_back tried (unwrap_or s.foresight.stands (elim chance [ ComesBack ↦ true | _ ↦ false ])) records)

abbrev pub decision_at : Chance → Event → Scene → Decision
decision_at chance (event.Restart node.Clear) s = restart_decision ClearReads s.clear s.shown.clear.tried s.shown.clear.records chance
decision_at chance (event.Restart node.Depot) s = restart_decision DepotReads s.depot s.shown.depot.tried s.shown.depot.records chance
decision_at chance e s = event_decision (known_of (node_of e) s).next chance

-- what is known after a commit: of one that failed as was planned, whether its record stands
abbrev pub after_commit : Decision → Foresight → Foresight
after_commit DeviceFails f = elim f.next [ Fails stands ↦ record { next = Succeeds; stands = Some stands } | next ↦ record { next = next; stands = None } ]
after_commit _ f = f

-- nothing is known of an undecided record once the journal was read, also where there was no memory for what it gave
abbrev pub after_restart : Chance → Outcome → Foresight → Foresight
after_restart chance (outcomes.Restarted records kept) f = record f { stands = None }
after_restart chance (outcomes.Refused (refusal.BadJournal place)) f = record f { stands = None }
after_restart Forgets (outcomes.Refused refusal.OutOfMemory) f = record f { stands = None }
after_restart chance _ f = f

-- what is known of the keeper of an event's node after it, by what the event comes to by what there is
abbrev pub known_after : Chance → Decision → Result Change Refusal → Outcome → Foresight → Foresight
known_after chance d (Ok (Commits told left failed)) outcome f = after_commit d f
known_after chance d (Ok (Restarts name)) outcome f = after_restart chance outcome f
known_after chance d _ outcome f = f

-- what an event comes to by what comes between, and leaves
unfoldable pub comes_to : Chance → Event → Scene → Outcome × Scene
comes_to chance e s =
    let d = decision_at chance e s in
    let (outcome, shown) = happens d e s.shown in
    (outcome, with_known (node_of e) (known_after chance d (judged e s.shown) outcome (known_of (node_of e) s)) (record s { shown = shown }))

-- so it is by something that comes between, and so much is left of the devices
abbrev pub Comes : Event → Outcome → World → World → Type 0
Comes e outcome old new = (chance : Chance) × DevicesLeave (judged e (shown_of old)) (node_of e) outcome old new × (comes_to chance e (scene_of old) ≡ (outcome, scene_of new))

-- the next commit of a node is planned to fail (by who tries the program; a lot's plan is another thing)
abbrev pub with_failure_planned : NodeName → Bool → Scene → Scene
with_failure_planned name stands s = with_known name (record (known_of name s) { next = Fails stands }) s

-- whether a node's keeper plans failures
abbrev pub is_planner : NodeName → Scene → Bool
is_planner name s = is_foreseen (known_of name s).next

-- what a plan leaves of the scene, by its answer
abbrev pub Plans : NodeName → Bool → Result (Unit {0}) NotPlanned → Scene → Scene → Type 0
Plans name stands (Ok _) old new = (is_planner name old ≡ true) × (new ≡ with_failure_planned name stands old)
Plans name stands (Err _) old new = (is_planner name old ≡ false) × (new ≡ old)

-- A restart of a node comes to what its log leaves.
use Rattle.std.specs.Prelude.{map, unwrap_or}
use Rattle.std.proofs.lemmas.Bool.{false_from_ne_true}
use Rattle.std.proofs.Common.{◌≡◌, ◌∙◌, [], Bool, true, false, List, ℕ, Option, Some, None, Result, Ok, Err, inl, inr, refl, sym, ap, subst}
use Rattle.cns_journal.specs.Keeper.{Unforeseen}
use Rattle.cns_journal.specs.RecordLog.{IsReadBack, LogRestarts, LogShown, LogState, ReadingLeaves, log_shown, restarted}
use Rattle.cns_journal.specs.Replay.{AreAllowed}
use Rattle.cns_journal.specs.declared.record_log.ReplayFault.{ReplayFault}
use Rattle.cns_journal.specs.declared.record_log.ReplayFault.TheVariants as replay
use Rattle.cns_journal.specs.declared.record_log.Restarted.{Restarted}
use Rattle.cns_records.specs.Clear.{HasPayload, spelling}
use Rattle.cns_records.specs.Dep.{HasDepPayload, dep_spelling}
use Rattle.cns_clearing.specs.Books.{IsAllowed}
use Rattle.cns_clearing.specs.Node as clear
use Rattle.cns_depository.specs.Node as depot
use Rattle.cns_depository.specs.Stock.{IsExecutable}
use Rattle.cns_system.specs.Devices.{DeviceAtRestart}
use Rattle.cns_system.specs.Happens.{ClearReads, Decision, DepotReads, DeviceFails, FindsBad, Goes, NoMemory, Restarts as RestartsOf, judged, reading_by, restart_by, restart_told}
use Rattle.cns_system.specs.Lot.{LotState, with_end}
use Rattle.cns_system.specs.Scene.{Chance, ComesBack, Comes, Decides, Forgets, KeeperKnowledge, after_restart, given_back, restart_decision, knowledge_of}
use Rattle.cns_system.specs.Shown.{Shown, shown_of}
use Rattle.cns_system.specs.World.{World}
use Rattle.cns_system.specs.declared.event.Event.TheVariants as event
use Rattle.cns_system.specs.declared.event.NodeName.TheVariants as node
use Rattle.cns_system.proofs.ComesLemmas.{by_chance, untouched_refl}

-- of a keeper that is not honest, the surroundings decide
decides : {R : Type 0} (reads : List R → Decision) (d : Decision) (s : KeeperKnowledge) (tried : Option R) (records : List R) → s.honest ≡ false
    → restart_decision reads s tried records (Decides d) ≡ d
decides reads NoMemory s tried records dishonest = refl
decides reads _ s tried records dishonest = rw dishonest refl

-- the device of a keeper fails of which nothing is known
fails_unknown : {R : Type 0} (reads : List R → Decision) (s : KeeperKnowledge) (tried : Option R) (records : List R) → s.foresight.next ≡ Unforeseen
    → restart_decision reads s tried records (Decides DeviceFails) ≡ DeviceFails
fails_unknown reads s tried records unknown = by s.honest refl
  where
    by : (honest : Bool) → s.honest ≡ honest → restart_decision reads s tried records (Decides DeviceFails) ≡ DeviceFails
    by false is = decides reads DeviceFails s tried records is
    by true is = rw (is, unknown) refl

-- the chance at a restart of an honest keeper, by whether the undecided record comes back
abbrev chance_of : Bool → Chance
chance_of true = ComesBack
chance_of false = Decides Goes

came_back : (kept : Bool) (stands : Option Bool) → ((known : Bool) → stands ≡ Some known → kept ≡ known) → unwrap_or stands kept ≡ kept
came_back kept (Some known) as_known = sym (as_known known refl)
came_back kept None as_known = refl

given_when : {R : Type 0} (back : Bool) (log : LogState R) (records : List R) → IsReadBack back log records → given_back log.tried back log.records ≡ records
given_when false log records is = sym is
given_when true log records (r, tried, is) = rw (tried, is) refl

-- an honest keeper gives its journal back
gives : {R : Type 0} (reads : List R → Decision) (kept : Bool) (s : KeeperKnowledge) (tried : Option R) (records : List R) → s.honest ≡ true
    → restart_decision reads s tried records (chance_of kept) ≡ reads (given_back tried (unwrap_or s.foresight.stands kept) records)
gives reads true s tried records honest = rw honest refl
gives reads false s tried records honest = rw honest refl

-- a restart that succeeded
reread : {R : Type 0} (reads : List R → Decision) (log : LogState R) (records : List R)
    → (log.honest ≡ true → (back : Bool) × IsReadBack back log records × ((stands : Bool) → log.foresight.stands ≡ Some stands → back ≡ stands))
    → (chance : Chance) × (restart_decision reads (knowledge_of log) log.tried log.records chance ≡ reads records)
reread reads log records gave = by log.honest refl
  where
    by : (honest : Bool) → log.honest ≡ honest → (chance : Chance) × (restart_decision reads (knowledge_of log) log.tried log.records chance ≡ reads records)
    by false is = (Decides (reads records), decides reads (reads records) (knowledge_of log) log.tried log.records is)
    by true is =
        let (back, read, as_known) = gave is in (
          chance_of back,
          gives reads back (knowledge_of log) log.tried log.records is
              ∙ ap (λ (k : Bool). reads (given_back log.tried k log.records)) (came_back back log.foresight.stands as_known)
              ∙ ap reads (given_when back log records read),
        )

-- how a restart of a log is decided, and what it comes to
record Rereads {R : Type 0} (spelling : R → List ℕ) (allows : List R → R → Type 0) (fits : R → Type 0) (reads : List R → Decision) (read_by : Decision → List R)
    (result : Result Restarted ReplayFault) (old new : LogState R) : Type 0 where
  pub chance : Chance
  pub decision : Decision
  pub decided : restart_decision reads (knowledge_of old) old.tried old.records chance ≡ decision
  pub settles : (left : LogShown R → Shown) → restart_by decision (log_shown old) (read_by decision) left ≡ (restart_told result, left (log_shown new))
  pub sight : knowledge_of new ≡ record (knowledge_of old) { foresight = after_restart chance (restart_told result) old.foresight }
  pub devices : DeviceAtRestart spelling allows fits (restart_told result) old new

module _ {R : Type 0} (spelling : R → List ℕ) (allows : List R → R → Type 0) (fits : R → Type 0) (reads : List R → Decision) (read_by : Decision → List R)
    (found : (c : List R) → read_by (reads c) ≡ c) (goes : (c : List R) → reading_by (reads c) c ≡ Ok c) (old new : LogState R) where
  -- there was no memory
  short : (chance : Chance) → record (log_shown old) { down = true } ≡ log_shown new → new.honest ≡ old.honest → new.rejected ≡ old.rejected → new.failures ≡ old.failures
      → restart_decision reads (knowledge_of old) old.tried old.records chance ≡ NoMemory
      → new.foresight ≡ after_restart chance (restart_told (Err replay.OutOfMemory)) old.foresight
      → Rereads spelling allows fits reads read_by (Err replay.OutOfMemory) old new
  short chance shown honest rejected failures decided known = record {
    chance = chance;
    decision = NoMemory;
    decided = decided;
    settles = λ l. ap (λ (log : LogShown R). (restart_told (Err replay.OutOfMemory), l log)) shown;
    sight = rw (honest, known) refl;
    devices = record { failures = failures; rejected = rejected };
  }

  -- by what was read
  by_reading : (reading : Result (List R) ReplayFault) → (restarted reading (log_shown old)).1 ≡ log_shown new → new.honest ≡ old.honest → ReadingLeaves spelling allows fits reading old new
      → Rereads spelling allows fits reads read_by (restarted reading (log_shown old)).0 old new
  by_reading (Ok records) shown honest left =
      let by = reread reads old records left.4 in
      record {
        chance = by.0;
        decision = reads records;
        decided = by.1;
        settles = λ l. rw (found records, goes records) (ap (λ (log : LogShown R). (restart_told (restarted (Ok records) (log_shown old)).0, l log)) shown);
        sight = rw (honest, left.2) refl;
        devices = (left.1, left.0, subst (λ (log : LogShown R). AreAllowed allows log.records) shown left.3);
      }
  by_reading (Err replay.OutOfMemory) shown honest left = elim left.2 [
    | inl same ↦ short (Decides NoMemory) shown honest left.0 left.1 refl same
    | inr unknown ↦ short Forgets shown honest left.0 left.1 refl unknown
  ]
  by_reading (Err (replay.BadJournal place)) shown honest left = record {
    chance = Decides (FindsBad place);
    decision = FindsBad place;
    decided = decides reads (FindsBad place) (knowledge_of old) old.tried old.records (false_from_ne_true old.honest left.3);
    settles = λ l. ap (λ (log : LogShown R). (restart_told (Err (replay.BadJournal place)), l log)) shown;
    sight = rw (honest, left.1) refl;
    devices = (left.0, left.2);
  }
  by_reading (Err replay.Device) shown honest left = record {
    chance = Decides DeviceFails;
    decision = DeviceFails;
    decided = fails_unknown reads (knowledge_of old) old.tried old.records left.3;
    settles = λ l. ap (λ (log : LogShown R). (restart_told (Err replay.Device), l log)) shown;
    sight = rw (honest, left.2) refl;
    devices = (left.1, left.0, left.3);
  }

  -- so it is of each restart
  rereads : (result : Result Restarted ReplayFault) → LogRestarts spelling allows fits result old new → Rereads spelling allows fits reads read_by result old new
  rereads result (reading, is, honest, left) =
      subst (λ (r : Result Restarted ReplayFault). Rereads spelling allows fits reads read_by r old new) (ap (λ (p : Result Restarted ReplayFault × LogShown R). p.0) is)
      (by_reading reading (ap (λ (p : Result Restarted ReplayFault × LogShown R). p.1) is) honest left)

pub clear_restarts : (result : Result Restarted ReplayFault) (old : World) (left_node : clear.ClearNode) (lots : List LotState) → clear.RestartLeaves result old.clear.clear left_node
    → lots ≡ map with_end old.clear.lots → Comes (event.Restart node.Clear) (restart_told result) old (record old { clear = record { clear = left_node; lots = lots } })
unfolding judged
clear_restarts result old left_node lots (left, none) ended =
    let new : World = record old { clear = record { clear = left_node; lots = lots } } in
    let by =
    rereads spelling IsAllowed HasPayload ClearReads (λ (d : Decision). elim d [ ClearReads c ↦ c | _ ↦ old.clear.clear.log.records ]) (λ c. refl) (λ c. refl)
    old.clear.clear.log left_node.log result left in
    by_chance (event.Restart node.Clear) old new by.chance by.decision (Ok (RestartsOf node.Clear)) (restart_told result) _ by.decided refl
    (by.settles (λ log. record (shown_of old) { clear = log; open_lots = []; lots = map with_end old.clear.lots }) ∙ rw (none, ended) refl) refl
    (rw (by.sight) refl) (by.devices, untouched_refl old.depot.log)

pub depot_restarts : (result : Result Restarted ReplayFault) (old : World) (left_node : depot.DepNode) → depot.RestartLeaves result old.depot left_node
    → Comes (event.Restart node.Depot) (restart_told result) old (record old { depot = left_node })
unfolding judged
depot_restarts result old left_node (left, openings) =
    let new : World = record old { depot = left_node } in
    let by =
    rereads dep_spelling (IsExecutable old.depot.openings) HasDepPayload DepotReads (λ (d : Decision). elim d [ DepotReads p ↦ p | _ ↦ old.depot.log.records ]) (λ c. refl)
    (λ c. refl) old.depot.log left_node.log result left in
    by_chance (event.Restart node.Depot) old new by.chance by.decision (Ok (RestartsOf node.Depot)) (restart_told result) _ by.decided refl
    (by.settles (λ log. record (shown_of old) { depot = log }) ∙ rw openings refl) refl
    (rw (by.sight) refl) (by.devices, untouched_refl old.clear.clear.log)

-- What contracts see of a log of records: a node's records over its keeper's journal (this project's own rules).
use Rattle.std.specs.Prelude.{◌≡◌, ◌==◌, ◌⊎◌, ℕ, ◌+◌, Bool, true, false, List, [], ◌∷◌, ◌++◌, map, reverse, length, Option, Some, None, Result, Ok, Err}
use Rattle.cns_journal.specs.Keeper.{Journal, Foresight, Unforeseen, MaySucceed, HasFailed, HasRisen, IsReopened, PlanLeaves, StandsAsForeseen, KeeperState}
use Rattle.cns_journal.specs.Replay.{AreAllowed, AreFit, IsBadPlace}
use Rattle.cns_journal.specs.declared.keeper.NotPlanned.{NotPlanned}
use Rattle.cns_journal.specs.declared.record_log.Restarted.{Restarted}
use Rattle.cns_journal.specs.declared.record_log.ReplayFault.{ReplayFault}
use Rattle.cns_journal.specs.declared.record_log.ReplayFault.TheVariants as replay
use Rattle.cns_journal.specs.declared.record_log.CommitFault.{CommitFault}
use Rattle.cns_journal.specs.declared.record_log.CommitFault.TheVariants.{OutOfMemory, Device}

-- the records, the newest first; the record whose commit failed; whether the node is down; the payloads of the last reading that found a
-- bad one, until one succeeds; how often its keeper's device has failed, whether its keeper is honest, and what is known beforehand of its
-- keeper
pub record LogState (R : Type 0) : Type 0 where
  pub records : List R
  pub tried : Option R
  pub down : Bool
  pub rejected : List (List ℕ)
  pub failures : ℕ
  pub honest : Bool
  pub foresight : Foresight

-- what a log shows, except what it tells of its keeper: the records, the newest first; the record whose commit failed, which is undecided until a restart; and
-- whether the node is down
pub record LogShown (R : Type 0) : Type 0 where
  pub records : List R
  pub tried : Option R
  pub down : Bool

abbrev pub log_shown : {R : Type 0} → LogState R → LogShown R
log_shown log = record { records = log.records; tried = log.tried; down = log.down }

-- no two records have one payload
abbrev pub HaveOwnPayloads : {R : Type 0} → (R → List ℕ) → (R → Type 0) → Type 0
HaveOwnPayloads spelling fits = (a b : _) → fits a → fits b → spelling a ≡ spelling b → a ≡ b

-- what a reopening may give: the records, the oldest first, and then at most the one whose commit failed
abbrev pub GivesBack : {R : Type 0} → (R → List ℕ) → List R → Option R → List (List ℕ) → Type 0
GivesBack spelling items tried given =
    (given ≡ map spelling items) ⊎ ((r : _) × (tried ≡ Some r) × (given ≡ map spelling (items ++ r ∷ [])))

abbrev pub FitsTried : {R : Type 0} → (R → Type 0) → Option R → Type 0
FitsTried fits None = Unit {0}
FitsTried fits (Some r) = fits r

-- what is so of a log's parts, its records with the oldest first: an honest keeper has just their payloads while the log is up,
-- and gives back no others while it is down
pub record IsLog {R : Type 0} (spelling : R → List ℕ) (fits : R → Type 0) (items : List R) (tried : Option R) (down : Bool) (keeper : KeeperState) : Type 0 where
  pub all_fit : AreFit fits items
  pub tried_fits : FitsTried fits tried
  pub up : down ≡ false → (tried ≡ None) × (keeper.run.down ≡ false)
  pub journal_up : down ≡ false → keeper.honest ≡ true → keeper.journal ≡ record { kept = map spelling items; undecided = None }
  pub journal_down : keeper.honest ≡ true → (given : List (List ℕ)) → IsReopened keeper.journal given → GivesBack spelling items tried given
  pub foreseen : keeper.honest ≡ true → (stands : Bool) → keeper.foresight.stands ≡ Some stands
      → (r : R) × (tried ≡ Some r) × (keeper.journal ≡ record { kept = map spelling items; undecided = Some (spelling r) })

-- a record is given to the journal: it is added; or the device fails, so that it is undecided (a restart finds it in the journal, or does not) and the node is down
abbrev pub with_added : {R : Type 0} → R → LogShown R → LogShown R
with_added r log = record log { records = r ∷ log.records }

abbrev pub with_undecided : {R : Type 0} → R → LogShown R → LogShown R
with_undecided r log = record log { tried = Some r; down = true }

-- a log that shows this, and tells of its keeper as before
abbrev pub showing : {R : Type 0} → LogShown R → LogState R → LogState R
showing shown log = record log { records = shown.records; tried = shown.tried; down = shown.down }

-- what the commit of a record leaves, by its answer, and what that says of the keeper's device
abbrev pub LogCommits : {R : Type 0} → R → Result (Unit {0}) CommitFault → LogState R → LogState R → Type 0
LogCommits r (Ok _) old new = (new ≡ showing (with_added r (log_shown old)) old) × MaySucceed old.foresight.next
LogCommits r (Err OutOfMemory) old new = new ≡ old
LogCommits r (Err Device) old new =
    (new ≡ record (showing (with_undecided r (log_shown old)) old) { failures = new.failures; foresight = new.foresight })
    × HasRisen old.failures new.failures × HasFailed old.foresight new.foresight

-- the record whose commit failed may stand after the others
abbrev pub MayStand : {R : Type 0} → (List R → R → Type 0) → List R → Option R → Type 0
MayStand allows c None = Unit {0}
MayStand allows c (Some r) = allows c r

-- each record may stand after those before it, and so may the one whose commit failed; a log that is up has none such
pub record IsLawfulLog {R : Type 0} (allows : List R → R → Type 0) (log : LogState R) : Type 0 where
  pub allowed : AreAllowed allows log.records
  pub tried : MayStand allows log.records log.tried
  pub up : log.down ≡ false → log.tried ≡ None

-- the records are as before, and then the one whose commit failed, where that came back
abbrev pub IsReadBack : {R : Type 0} → Bool → LogState R → List R → Type 0
IsReadBack false log records = records ≡ log.records
IsReadBack true log records = (r : _) × (log.tried ≡ Some r) × (records ≡ r ∷ log.records)

-- what a restart answers and leaves of a log, by what reading its journal again gave, the newest record first: how many records there are, and whether
-- there is just one more than before; where the reading was refused, the log is down, also if it was up, with its records and the one whose commit failed
abbrev pub restarted : {R : Type 0} → Result (List R) ReplayFault → LogShown R → Result Restarted ReplayFault × LogShown R
restarted (Ok records) log =
    (Ok (record { records = length records; kept = length records == length log.records + 1 }), record { records = records; tried = None; down = false })
restarted (Err fault) log = (Err fault, record log { down = true })

-- what reading the journal again may give, and what it leaves besides: the payloads of a bad reading, how often the device failed, and what is known
-- beforehand. (Where memory is wanting for the records, the keeper may have read its journal all the same, and decided what became of an undecided one.)
abbrev pub ReadingLeaves : {R : Type 0} → (R → List ℕ) → (List R → R → Type 0) → (R → Type 0) → Result (List R) ReplayFault → LogState R → LogState R → Type 0
ReadingLeaves spelling allows fits (Ok records) old new =
    (new.rejected ≡ []) × (new.failures ≡ old.failures) × (new.foresight ≡ record old.foresight { stands = None }) × AreAllowed allows records
    × (old.honest ≡ true → (back : Bool) × IsReadBack back old records × ((stands : Bool) → old.foresight.stands ≡ Some stands → back ≡ stands))
ReadingLeaves spelling allows fits (Err replay.OutOfMemory) old new =
    (new.rejected ≡ old.rejected) × (new.failures ≡ old.failures)
    × ((new.foresight ≡ old.foresight) ⊎ (new.foresight ≡ record old.foresight { stands = None }))
ReadingLeaves spelling allows fits (Err (replay.BadJournal place)) old new =
    (new.failures ≡ old.failures) × (new.foresight ≡ record old.foresight { stands = None })
    × IsBadPlace spelling allows fits new.rejected place × (old.honest ≡ true → ⊥)
ReadingLeaves spelling allows fits (Err replay.Device) old new =
    (new.rejected ≡ old.rejected) × HasRisen old.failures new.failures × (new.foresight ≡ old.foresight) × (old.foresight.next ≡ Unforeseen)

-- a restart: by something that reading the journal again gave it answers and leaves the log; its keeper stays as honest as it was
abbrev pub LogRestarts : {R : Type 0} → (R → List ℕ) → (List R → R → Type 0) → (R → Type 0) → Result Restarted ReplayFault → LogState R → LogState R → Type 0
LogRestarts {R} spelling allows fits result old new =
    (reading : Result (List R) ReplayFault) × (restarted reading (log_shown old) ≡ (result, log_shown new)) × (new.honest ≡ old.honest)
    × ReadingLeaves spelling allows fits reading old new

-- what an opening gives: a log that is up, with the records that its keeper gave, each of which has a payload of its own
pub record IsOpened {R : Type 0} (spelling : R → List ℕ) (allows : List R → R → Type 0) (fits : R → Type 0) (keeper : KeeperState) (log : LogState R) : Type 0 where
  pub value : log ≡ record {
    records = log.records;
    tried = None;
    down = false;
    rejected = [];
    failures = keeper.run.failures;
    honest = keeper.honest;
    foresight = record keeper.foresight { stands = None };
  }
  pub allowed : AreAllowed allows log.records
  pub fit : AreFit fits (reverse log.records)
  pub given : keeper.honest ≡ true → IsReopened keeper.journal (map spelling (reverse log.records))
  pub stands : keeper.honest ≡ true → StandsAsForeseen keeper.foresight.stands (Ok (map spelling (reverse log.records))) keeper.journal

-- what a plan leaves, by its answer
abbrev pub LogPlanned : {R : Type 0} → Bool → Result (Unit {0}) NotPlanned → LogState R → LogState R → Type 0
LogPlanned stands result old new = PlanLeaves stands result old.foresight new.foresight × (new ≡ record old { foresight = new.foresight })

-- what the keeper of a log has: just its records where the log is up, and at a reopening nothing but these and the record whose
-- commit failed
pub record Keeps {R : Type 0} (spelling : R → List ℕ) (log : LogState R) (journal : Journal) : Type 0 where
  pub up : log.down ≡ false → journal ≡ record { kept = map spelling (reverse log.records); undecided = None }
  pub any : (given : List (List ℕ)) → IsReopened journal given → GivesBack spelling (reverse log.records) log.tried given

-- a keeper that a log gave up: an honest one has the log's records, and where that is down at most the one besides whose commit
-- failed
pub record IsGivenUp {R : Type 0} (spelling : R → List ℕ) (log : LogState R) (keeper : KeeperState) : Type 0 where
  pub honest : keeper.honest ≡ log.honest
  pub keeps : log.honest ≡ true → Keeps spelling log keeper.journal
  pub run : log.down ≡ false → keeper.run.down ≡ false
  pub failures : keeper.run.failures ≡ log.failures
  pub foresight : keeper.foresight ≡ log.foresight

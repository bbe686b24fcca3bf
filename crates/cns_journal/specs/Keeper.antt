-- What contracts see of a keeper of a journal (this project's own rules).
use Rattle.std.specs.Prelude.{◌≡◌, ◌≢◌, ◌⊎◌, ℕ, ◌+◌, ◌-◌, ◌^◌, ◌<◌, ◌≤◌, Bool, true, false, List, [], ◌∷◌, ◌++◌, length, Option, Some, None, Result, Ok, Err, Vec, vec_items, map}
use Rattle.cns_journal.specs.declared.keeper.KeepFault.{KeepFault}
use Rattle.cns_journal.specs.declared.keeper.KeepFault.TheVariants.{Memory, Down, Device}
use Rattle.cns_journal.specs.declared.keeper.NotPlanned.{NotPlanned}
use Rattle.cns_journal.specs.declared.keeper.TheConstants.{MAX_RECORDS}

-- what holds of each keeper: whether it is down, how often its device has failed, and how many records it counts
pub record Running : Type 0 where
  pub down : Bool
  pub failures : ℕ
  pub count : ℕ

-- what an honest keeper keeps: the acknowledged records, and the one whose commit failed and that no reopening has decided since
pub record Journal : Type 0 where
  pub kept : List (List ℕ)
  pub undecided : Option (List ℕ)

-- what is known beforehand of the next commit that reaches the device: nothing; that it succeeds; or that it fails, and whether
-- its record then stands at the reopening
pub data Forecast : Type 0 where
  Unforeseen : Forecast
  Succeeds : Forecast
  Fails : Bool → Forecast

-- what is known beforehand of a keeper, whose failures a trial may plan (of a real device nothing is known): how its next commit ends, and whether the undecided
-- record stands at the reopening
pub record Foresight : Type 0 where
  pub next : Forecast
  pub stands : Option Bool

-- what contracts see of a keeper: whether a reopening gives what was acknowledged, and all of the above
pub record KeeperState : Type 0 where
  pub honest : Bool
  pub run : Running
  pub journal : Journal
  pub foresight : Foresight

-- a commit may succeed, and a reopening may fail at the device
abbrev pub MaySucceed : Forecast → Type 0
MaySucceed Unforeseen = Unit {0}
MaySucceed Succeeds = Unit {0}
MaySucceed (Fails stands) = ⊥

-- a commit failed at the device: where that was foreseen, so is whether its record stands, and the commit after it succeeds
abbrev pub FailsTo : Forecast → Foresight → Type 0
FailsTo Unforeseen new = new ≡ record { next = Unforeseen; stands = None }
FailsTo Succeeds new = ⊥
FailsTo (Fails stands) new = new ≡ record { next = Succeeds; stands = Some stands }

abbrev pub HasFailed : Foresight → Foresight → Type 0
HasFailed old new = FailsTo old.next new

-- a count of failures is larger than before, or was at its end, 2^64 - 1, and stays there
abbrev pub HasRisen : ℕ → ℕ → Type 0
HasRisen old new = (old < new) ⊎ ((old ≡ 2 ^ 64 - 1) × (new ≡ old))

-- what a commit leaves of a keeper, by its answer: only one that is up adds a record or fails at the device
abbrev pub CommitLeaves : Result (Unit {0}) KeepFault → Running → Running → Type 0
CommitLeaves (Ok _) old new = (old.down ≡ false) × (new ≡ record old { count = old.count + 1 }) × (new.count ≤ MAX_RECORDS)
CommitLeaves (Err Memory) old new = new ≡ old
CommitLeaves (Err Down) old new = (old.down ≡ true) × (new ≡ old)
CommitLeaves (Err Device) old new = (old.down ≡ false) × (new.down ≡ true) × HasRisen old.failures new.failures × (new.count ≡ old.count)

-- what a commit leaves of the journal, by its answer: the record is added, or undecided, or nothing changes
abbrev pub CommitKeeps : List ℕ → Result (Unit {0}) KeepFault → Journal → Journal → Type 0
CommitKeeps payload (Ok _) old new = (old.undecided ≡ None) × (new ≡ record old { kept = old.kept ++ payload ∷ [] })
CommitKeeps payload (Err Memory) old new = new ≡ old
CommitKeeps payload (Err Down) old new = new ≡ old
CommitKeeps payload (Err Device) old new = (old.undecided ≡ None) × (new ≡ record old { undecided = Some payload })

-- a reopening's answer, with the records that it gives as lists of bytes
abbrev pub given_by : {Y Z : Type 0} → Result (Vec (Vec ℕ Y) Z) KeepFault → Result (List (List ℕ)) KeepFault
given_by (Ok records) = Ok (map vec_items (vec_items records))
given_by (Err fault) = Err fault

-- what a reopening leaves of a keeper, by its answer: it is up and counts what it gave, or the device failed and it is down
abbrev pub ReopenLeaves : Result (List (List ℕ)) KeepFault → Running → Running → Type 0
ReopenLeaves (Ok given) old new = (new ≡ record { down = false; failures = old.failures; count = length given }) × (length given ≤ MAX_RECORDS)
ReopenLeaves (Err Memory) old new = new ≡ old
ReopenLeaves (Err Down) old new = ⊥
ReopenLeaves (Err Device) old new = (new.down ≡ true) × HasRisen old.failures new.failures × (new.count ≡ old.count)

-- the acknowledged records, and then at most the undecided one
abbrev pub IsReopened : Journal → List (List ℕ) → Type 0
IsReopened journal given = (given ≡ journal.kept) ⊎ ((payload : List ℕ) × (journal.undecided ≡ Some payload) × (given ≡ journal.kept ++ payload ∷ []))

-- what a reopening leaves of the journal, by its answer: what it gave is acknowledged from then on, and a refused one leaves both parts
abbrev pub ReopenKeeps : Result (List (List ℕ)) KeepFault → Journal → Journal → Type 0
ReopenKeeps (Ok given) old new = IsReopened old given × (new ≡ record { kept = given; undecided = None })
ReopenKeeps (Err _) old new = new ≡ old

-- what a commit leaves of what is known beforehand, by its answer
abbrev pub CommitForeseen : Result (Unit {0}) KeepFault → Foresight → Foresight → Type 0
CommitForeseen (Ok _) old new = MaySucceed old.next × (new ≡ old)
CommitForeseen (Err Memory) old new = new ≡ old
CommitForeseen (Err Down) old new = new ≡ old
CommitForeseen (Err Device) old new = HasFailed old new

-- what a reopening leaves of what is known beforehand, by its answer: it fails at the device only where nothing is known
abbrev pub ReopenForeseen : Result (List (List ℕ)) KeepFault → Foresight → Foresight → Type 0
ReopenForeseen (Ok given) old new = new ≡ record old { stands = None }
ReopenForeseen (Err Memory) old new = new ≡ old
ReopenForeseen (Err Down) old new = ⊥
ReopenForeseen (Err Device) old new = (old.next ≡ Unforeseen) × (new ≡ old)

-- a reopening gave the undecided record where that was foreseen, and did not where the contrary was
abbrev pub StandsAsForeseen : Option Bool → Result (List (List ℕ)) KeepFault → Journal → Type 0
StandsAsForeseen None result journal = Unit {0}
StandsAsForeseen (Some stands) (Err fault) journal = Unit {0}
StandsAsForeseen (Some true) (Ok given) journal = length given ≡ length journal.kept + 1
StandsAsForeseen (Some false) (Ok given) journal = given ≡ journal.kept

-- what a plan leaves of what is known beforehand, by its answer: it is refused exactly where nothing is known
abbrev pub PlanLeaves : Bool → Result (Unit {0}) NotPlanned → Foresight → Foresight → Type 0
PlanLeaves stands (Ok _) old new = (old.next ≢ Unforeseen) × (new ≡ record old { next = Fails stands })
PlanLeaves stands (Err _) old new = (old.next ≡ Unforeseen) × (new ≡ old)

-- What reading a journal's payloads again gives, over any kind of record (this project's own rules).
use Rattle.std.specs.Prelude.{◌≡◌, ◌⊎◌, ℕ, ◌+◌, Bool, true, false, List, [], ◌∷◌, ◌++◌, map, reverse, length, Result, Ok, Err, Vec, vec_items}
use Rattle.cns_journal.specs.Keeper.{ReopenLeaves, ReopenKeeps, ReopenForeseen, StandsAsForeseen, KeeperState}
use Rattle.cns_journal.specs.declared.keeper.KeepFault.{KeepFault}
use Rattle.cns_journal.specs.declared.keeper.KeepFault.TheVariants as keep
use Rattle.cns_journal.specs.declared.record_log.ReplayFault.{ReplayFault}
use Rattle.cns_journal.specs.declared.record_log.ReplayFault.TheVariants.{OutOfMemory, BadJournal, Device}

-- each of these records, the newest first, may stand after those before it
abbrev pub AreAllowed : {R : Type 0} → (List R → R → Type 0) → List R → Type 0
AreAllowed allows [] = Unit {0}
AreAllowed allows (r ∷ c) = allows c r × AreAllowed allows c

-- each of these records has a payload
abbrev pub AreFit : {R : Type 0} → (R → Type 0) → List R → Type 0
AreFit fits [] = Unit {0}
AreFit fits (r ∷ c) = fits r × AreFit fits c

-- an answer's records as a list
abbrev pub records_by : {R Z : Type 0} → Result (Vec R Z) ReplayFault → Result (List R) ReplayFault
records_by (Ok records) = Ok (vec_items records)
records_by (Err fault) = Err fault

-- records that were read again, the oldest first
pub record AreReplayed {R : Type 0} (allows : List R → R → Type 0) (fits : R → Type 0) (items : List R) : Type 0 where
  pub allowed : AreAllowed allows (reverse items)
  pub all_fit : AreFit fits items

-- a payload is of no record that may stand after these, the oldest first
abbrev pub IsBadPayload : {R : Type 0} → (R → List ℕ) → (List R → R → Type 0) → (R → Type 0) → List R → List ℕ → Type 0
IsBadPayload spelling allows fits items payload = (r : _) → fits r → spelling r ≡ payload → allows (reverse items) r → ⊥

-- the payload in this place, counted from 1, is the first such one
pub record IsBadPlace {R : Type 0} (spelling : R → List ℕ) (allows : List R → R → Type 0) (fits : R → Type 0) (given : List (List ℕ)) (place : ℕ) : Type 0 where
  pub before : List R
  pub payload : List ℕ
  pub after : List (List ℕ)
  pub given_is : given ≡ map spelling before ++ payload ∷ after
  pub replayed : AreReplayed allows fits before
  pub place_is : place ≡ length before + 1
  pub bad : IsBadPayload spelling allows fits before payload

-- whether a record may stand
abbrev pub Admits : Type 0 → Type 0 → Bool → Type 0
Admits allowed added true = allowed × added
Admits allowed added false = allowed → ⊥

-- what becomes of one payload
pub record IsAdmitted {R : Type 0} (spelling : R → List ℕ) (allows : List R → R → Type 0) (fits : R → Type 0) (payload : List ℕ) (old new : List R) : Type 0 where
  pub entry : R
  pub spelled : spelling entry ≡ payload
  pub list : new ≡ old ++ entry ∷ []
  pub allowed : allows (reverse old) entry
  pub entry_fits : fits entry

abbrev pub AdmitLeaves : {R : Type 0} → (R → List ℕ) → (List R → R → Type 0) → (R → Type 0) → List ℕ → Result (Unit {0}) ReplayFault → List R → List R → Type 0
AdmitLeaves spelling allows fits payload (Ok _) old new = IsAdmitted spelling allows fits payload old new
AdmitLeaves spelling allows fits payload (Err (BadJournal place)) old new = (place ≡ length old + 1) × IsBadPayload spelling allows fits old payload
AdmitLeaves spelling allows fits payload (Err OutOfMemory) old new = Unit {0}
AdmitLeaves spelling allows fits payload (Err Device) old new = ⊥

-- what becomes of the payloads of a journal
abbrev pub ReplayGives : {R : Type 0} → (R → List ℕ) → (List R → R → Type 0) → (R → Type 0) → List (List ℕ) → Result (List R) ReplayFault → Type 0
ReplayGives spelling allows fits given (Ok items) = AreReplayed allows fits items × (map spelling items ≡ given)
ReplayGives spelling allows fits given (Err (BadJournal place)) = IsBadPlace spelling allows fits given place
ReplayGives spelling allows fits given (Err OutOfMemory) = Unit {0}
ReplayGives spelling allows fits given (Err Device) = ⊥

-- a reopening of a keeper gave these payloads, or was refused
pub record Reopened (given : Result (List (List ℕ)) KeepFault) (old new : KeeperState) : Type 0 where
  pub honest : new.honest ≡ old.honest
  pub leaves : ReopenLeaves given old.run new.run
  pub keeps : old.honest ≡ true → ReopenKeeps given old.journal new.journal
  pub foreseen : ReopenForeseen given old.foresight new.foresight
  pub stands : old.honest ≡ true → StandsAsForeseen old.foresight.stands given old.journal

-- what reading a keeper's journal again leaves of the keeper, by its answer; where a payload is bad, these are all that were given
abbrev pub Reread : {R : Type 0} → (R → List ℕ) → (List R → R → Type 0) → (R → Type 0) → Result (List R) ReplayFault → List (List ℕ) → KeeperState → KeeperState → Type 0
Reread spelling allows fits (Ok items) rejected old new = Reopened (Ok (map spelling items)) old new × AreReplayed allows fits items
Reread spelling allows fits (Err (BadJournal place)) rejected old new = Reopened (Ok rejected) old new × IsBadPlace spelling allows fits rejected place
Reread spelling allows fits (Err OutOfMemory) rejected old new =
    Reopened (Err keep.Memory) old new ⊎ ((given : List (List ℕ)) × Reopened (Ok given) old new)
Reread spelling allows fits (Err Device) rejected old new = Reopened (Err keep.Device) old new

-- what is kept of the payloads that the last reading rejected: none once a reading succeeds
abbrev pub Rejects : {A : Type 0} → Result A ReplayFault → List (List ℕ) → List (List ℕ) → Type 0
Rejects (Ok a) old new = new ≡ []
Rejects (Err (BadJournal place)) old new = Unit {0}
Rejects (Err OutOfMemory) old new = new ≡ old
Rejects (Err Device) old new = new ≡ old

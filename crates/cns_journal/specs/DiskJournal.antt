-- What contracts see of a journal on a disk, and what it keeps (this project's own rules).
use Rattle.std.specs.Prelude.{◌≡◌, ◌⊎◌, ℕ, ◌≤◌, Bool, true, false, List, [], ◌∷◌, ◌++◌, take, Option, None, Any}
use Rattle.cns_journal.specs.Disk.{EachImage, LeavesOnly}
use Rattle.cns_journal.specs.Keeper.{Running, Journal, Foresight, Unforeseen, IsReopened}
use Rattle.cns_journal.specs.Layout.{HasWithOrWithout, IsSettled, journal_of, size_of}
use Rattle.cns_journal.specs.Tail.{DoesNoDamage, IsUndamaged}
use Rattle.cns_journal.specs.declared.disk_journal.Stage.{Stage}
use Rattle.cns_journal.specs.declared.disk_journal.Stage.TheVariants.{Unread, Up, Down}

-- the disk, and what every keeper shows
pub record DiskState (D : Type 0) : Type 0 where
  pub disk : D
  pub run : Running
  pub journal : Journal

-- of a disk nothing is known beforehand
abbrev pub nothing_known : Foresight
nothing_known = record { next = Unforeseen; stands = None }

-- the acknowledged records: those that stand before the end, or all of a file that was not read yet
abbrev pub kept_of : Stage → List ℕ → List (List ℕ)
kept_of Unread file = journal_of file
kept_of (Up end) file = journal_of (take end file ++ 0 ∷ [])
kept_of (Down end) file = journal_of (take end file ++ 0 ∷ [])

abbrev pub down_at : Stage → Bool
down_at Unread = true
down_at (Up end) = false
down_at (Down end) = true

abbrev pub end_at : Stage → ℕ
end_at Unread = 0
end_at (Up end) = end
end_at (Down end) = end

-- the stage after a failure of the device
abbrev pub fallen : Stage → Stage
fallen Unread = Unread
fallen (Up end) = Down end
fallen (Down end) = Down end

-- where the end stands
abbrev pub Stands : Stage → List ℕ → (List ℕ → Type 0) → Type 0
Stands Unread file images = Unit {0}
Stands (Up end) file images = IsSettled file images end
Stands (Down end) file images = end ≡ size_of (kept_of (Down end) file)

-- what holds of a journal between two calls: what the file reads as is what a reopening may give
pub record IsJournal (honest : Bool) (file : List ℕ) (images : List ℕ → Type 0) (stage : Stage) (count : ℕ) (undecided : Option (List ℕ)) : Type 0 where
  pub within : end_at stage ≤ 4611686018427387904
  pub few : count ≤ end_at stage
  pub decided : down_at stage ≡ false → undecided ≡ None
  pub stands : honest ≡ true → Stands stage file images
  pub found : honest ≡ true → IsReopened (record { kept = kept_of stage file; undecided = undecided }) (journal_of file)

-- a crash now leaves a file that stands for the acknowledged records, and then at most the undecided one
abbrev pub IsDurable : {D : Type 0} → (D → List ℕ → Type 0) → DiskState D → Type 0
IsDurable images j = EachImage (images j.disk) (λ image. IsReopened j.journal (journal_of image))

-- a call of a journal: a commit of a payload, or a reopening
pub data Call : Type 0 where
  Commit : List ℕ → Call
  Reopen : Call

-- what a crash during a call may leave, by what the journal has before it: the acknowledged records, and then at most the undecided one,
-- or the one that is committed
abbrev pub MayLeave : Call → Journal → List ℕ → Type 0
MayLeave (Commit payload) journal file = IsReopened journal (journal_of file) ⊎ HasWithOrWithout journal.kept payload file
MayLeave Reopen journal file = IsReopened journal (journal_of file)

-- what a call of a journal leaves of its disk: at any moment of it no more than that, and a durable journal after it, where it was durable; and
-- no damage, where there was none
pub record IsCall {D : Type 0} (images : D → List ℕ → Type 0) (moment : D → ℕ) (left_since : D → ℕ → List ℕ → Type 0) (call : Call) (old new : DiskState D) : Type 0 where
  pub any_moment : IsDurable images old → LeavesOnly moment left_since old.disk new.disk (MayLeave call old.journal)
  pub stays : IsDurable images old → IsDurable images new
  pub no_damage : EachImage (images old.disk) IsUndamaged → DoesNoDamage images moment left_since old.disk new.disk

-- calls one after another, each with what the journal has before it
abbrev pub AreCalls : {D : Type 0} → (D → List ℕ → Type 0) → (D → ℕ) → (D → ℕ → List ℕ → Type 0) → List (Call × Journal) → DiskState D → DiskState D → Type 0
AreCalls images moment left_since [] old new = new ≡ old
AreCalls {D} images moment left_since (c ∷ calls) old new =
    (c.1 ≡ old.journal) × ((next : DiskState D) × IsCall images moment left_since c.0 old next × AreCalls images moment left_since calls next new)

-- a crash at any moment of any calls leaves what one of these calls may leave, or what the journal had before them
abbrev pub AnyCalls : {D : Type 0} → (D → Bool) → (D → List ℕ → Type 0) → (D → ℕ) → (D → ℕ → List ℕ → Type 0) → Type 0
AnyCalls {D} honest images moment left_since =
    (calls : List (Call × Journal)) (old new : DiskState D) → honest old.disk ≡ true → IsDurable images old → AreCalls images moment left_since calls old new
    → (image : List ℕ) → left_since new.disk (moment old.disk) image
    → IsReopened old.journal (journal_of image) ⊎ Any (λ (c : Call × Journal). MayLeave c.0 c.1 image) calls

-- nor does it leave damage behind the records, where before these calls it left none
abbrev pub AnyCallsDoNoDamage : {D : Type 0} → (D → Bool) → (D → List ℕ → Type 0) → (D → ℕ) → (D → ℕ → List ℕ → Type 0) → Type 0
AnyCallsDoNoDamage {D} honest images moment left_since =
    (calls : List (Call × Journal)) (old new : DiskState D) → honest old.disk ≡ true → EachImage (images old.disk) IsUndamaged → AreCalls images moment left_since calls old new
    → EachImage (left_since new.disk (moment old.disk)) IsUndamaged

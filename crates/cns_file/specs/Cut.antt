-- What contracts see of a disk that keeps what is cut off its file, and what a cut loses (this project's own rules).
use Rattle.std.specs.Prelude.{◌≡◌, ◌⊎◌, ℕ, ◌≤◌, List, [], ◌∷◌, ◌++◌, length, drop}
use Rattle.cns_journal.specs.Disk.{EachImage, Elapses}

-- the disk, where what is cut off it is kept, and how often a call has failed
pub record CutState (D S : Type 0) : Type 0 where
  pub disk : D
  pub scraps : S
  pub failures : ℕ

-- calls that read: the file is the same, a crash leaves nothing that it could not have left at first, and time goes on
pub record IsRead {D : Type 0} (seen : D → List ℕ) (images : D → List ℕ → Type 0) (moment : D → ℕ) (left_since : D → ℕ → List ℕ → Type 0) (old new : D) : Type 0 where
  pub same : seen new ≡ seen old
  pub fewer : EachImage (images new) (images old)
  pub time : Elapses (moment old) (moment new) (left_since old) (left_since new) (images new)

-- what stood behind a place of the file, if anything did, is kept with that place, behind all that was kept before
abbrev pub IsCutKept : ℕ → List ℕ → List (ℕ × List ℕ) → List (ℕ × List ℕ) → Type 0
IsCutKept at file old new = (length file ≤ at) ⊎ (new ≡ old ++ (at, drop at file) ∷ [])

-- a cut lost nothing: the file is as it was, or what stood behind the place is kept
abbrev pub LosesNothing : ℕ → List ℕ → List ℕ → List (ℕ × List ℕ) → List (ℕ × List ℕ) → Type 0
LosesNothing at file after old new = (after ≡ file) ⊎ IsCutKept at file old new

-- nor does a crash then: it leaves nothing that it could not have left before, or what stood behind the place is kept
abbrev pub CrashLosesNothing : ℕ → List ℕ → (List ℕ → Type 0) → (List ℕ → Type 0) → List (ℕ × List ℕ) → List (ℕ × List ℕ) → Type 0
CrashLosesNothing at file before after old new = EachImage after before ⊎ IsCutKept at file old new

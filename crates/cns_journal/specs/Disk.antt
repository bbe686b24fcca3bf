-- What the calls of a disk do to its file, and what a crash may leave of it (this project's own rules).
use Rattle.std.specs.Prelude.{◌≡◌, ◌⊎◌, ℕ, ◌+◌, ◌≤◌, max, List, ◌++◌, length, take, drop, Result, Ok, Err, IsErr}
use Rattle.cns_journal.specs.Keeper.{HasRisen}

-- the file with these bytes at this place, over what was there
abbrev pub overwritten : List ℕ → ℕ → List ℕ → List ℕ
overwritten file at bytes = take at file ++ bytes ++ drop (at + length bytes) file

-- what a crash may leave of a write of n bytes: any bytes where it wrote and past the old end, and those outside as they were; no
-- shorter than the file was, and no longer than it has been
pub record Torn (at n : ℕ) (old new : List ℕ) : Type 0 where
  pub before : take at new ≡ take at old
  pub after : drop (at + n) new ≡ drop (at + n) old
  pub no_shorter : length old ≤ length new
  pub no_longer : length new ≤ max (length old) (at + n)

-- what a crash may leave of a cut: the old file, or the first n bytes of it
abbrev pub Shortened : ℕ → List ℕ → List ℕ → Type 0
Shortened n old new = (new ≡ old) ⊎ (new ≡ take n old)

-- each image now is one from before, with this step or without it
abbrev pub Follows : (List ℕ → List ℕ → Type 0) → (List ℕ → Type 0) → (List ℕ → Type 0) → Type 0
Follows step old new = (image : List ℕ) → new image → (before : List ℕ) × old before × (step before image ⊎ (image ≡ before))

-- each image is such
abbrev pub EachImage : (List ℕ → Type 0) → (List ℕ → Type 0) → Type 0
EachImage images P = (image : List ℕ) → images image → P image

-- a crash leaves this file and nothing else
abbrev pub Only : List ℕ → (List ℕ → Type 0) → Type 0
Only file images = (image : List ℕ) → images image → image ≡ file

-- a call fails exactly where the count of failures rises
abbrev pub CountsFailure : {T E : Type 0} → Result T E → ℕ → ℕ → Type 0
CountsFailure (Ok _) old new = new ≡ old
CountsFailure (Err _) old new = HasRisen old new

-- a call fails and does nothing: the file is the same, and a crash leaves nothing that it could not have left before
pub record DoesNothing {D T E : Type 0} (seen : D → List ℕ) (images : D → List ℕ → Type 0) (result : Result T E) (old new : D) : Type 0 where
  pub fails : IsErr result
  pub same : seen new ≡ seen old
  pub fewer : EachImage (images new) (images old)

-- time goes on: a crash since a moment may have left what it may have left before, or what it may leave now
pub record Elapses (before now : ℕ) (past since : ℕ → List ℕ → Type 0) (images : List ℕ → Type 0) : Type 0 where
  pub later : before ≤ now
  pub nothing_else : (t : ℕ) (image : List ℕ) → t ≤ before → since t image → past t image ⊎ images image
  pub keeps : (t : ℕ) (image : List ℕ) → t ≤ before → past t image → since t image

-- a crash at any moment from the old state of a disk to the new one leaves a file that is such
pub record LeavesOnly {D : Type 0} (moment : D → ℕ) (left_since : D → ℕ → List ℕ → Type 0) (old new : D) (P : List ℕ → Type 0) : Type 0 where
  pub later : moment old ≤ moment new
  pub each : (image : List ℕ) → left_since new (moment old) image → P image
  -- also where it is counted from an earlier moment on
  pub before : (t : ℕ) (image : List ℕ) → t ≤ moment old → left_since new t image → left_since old t image ⊎ P image

-- calls that read: the file is the same, and a crash leaves nothing that it could not have left at first
pub record OnlyReads {D : Type 0} (seen : D → List ℕ) (images : D → List ℕ → Type 0) (moment : D → ℕ) (left_since : D → ℕ → List ℕ → Type 0) (old new : D) : Type 0 where
  pub same : seen new ≡ seen old
  pub fewer : EachImage (images new) (images old)
  pub later : moment old ≤ moment new
  pub before : (t : ℕ) (image : List ℕ) → t ≤ moment old → left_since new t image → left_since old t image ⊎ images old image

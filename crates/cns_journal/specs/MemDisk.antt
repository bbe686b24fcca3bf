-- What contracts see of a disk in memory: all its calls, from which its file and its images follow (this project's own rules).
use Rattle.std.specs.Prelude.{◌≡◌, ◌⊎◌, ℕ, suc, ◌+◌, ◌-◌, ◌^◌, ◌<◌, ◌≤◌, Bool, true, false, ◌&&◌, ◌||◌, nat_eq, nat_le, nat_lt, if◌then◌else◌, List, [], ◌∷◌, length, take, slice_index_or, Option, Some, None, Result, Ok, Err}
use Rattle.std.proofs.Common.{inl, inr, refl, arith}
use Rattle.cns_journal.specs.Disk.{Elapses, Shortened, Torn, overwritten}
use Rattle.cns_journal.specs.Keeper.{HasRisen}

-- what a call did to the file: nothing; or it wrote bytes at a place, cut the file, or synced it; or the file is a new one, all of it on
-- the disk
pub data Step : Type 0 where
  Nothing : Step
  Writes : ℕ → List ℕ → Step
  Cuts : ℕ → Step
  Syncs : Step
  Starts : List ℕ → Step

-- which of the calls to come are to fail: the one of this number, counted from 1 on, where 0 is none of them; and whether all those
-- after it fail as well
pub record Plan : Type 0 where
  pub call : ℕ
  pub stops : Bool

-- no call is to fail
abbrev pub no_plan : Plan
no_plan = record { call = 0; stops = false }

-- the next call is one of those after the one that was to stop the disk
abbrev pub is_stopped : Plan → Bool
is_stopped plan = plan.stops && nat_eq plan.call 0

-- the next call is to fail
abbrev pub fails_now : Plan → Bool
fails_now plan = nat_eq plan.call 1 || is_stopped plan

-- what is planned after one more call
abbrev pub after_call : Plan → Plan
after_call plan = record plan { call = plan.call - 1 }

-- all calls, the latest first, how many failed, and which of those to come are to fail
pub record MemState : Type 0 where
  pub steps : List Step
  pub failures : ℕ
  pub plan : Plan

-- the file as it reads after these calls
abbrev pub content_of : List Step → List ℕ
content_of [] = []
content_of (Nothing ∷ steps) = content_of steps
content_of (Writes at bytes ∷ steps) = overwritten (content_of steps) at bytes
content_of (Cuts len ∷ steps) = take len (content_of steps)
content_of (Syncs ∷ steps) = content_of steps
content_of (Starts file ∷ steps) = file

-- a write begins within this file, or at its end
abbrev pub BeginsWithin : Step → List ℕ → Type 0
BeginsWithin (Writes at bytes) file = at ≤ length file
BeginsWithin _ file = Unit {0}

-- each write began so in the file as it was then
abbrev pub AreWithin : List Step → Type 0
AreWithin [] = Unit {0}
AreWithin (step ∷ steps) = BeginsWithin step (content_of steps) × AreWithin steps

-- what a disk in memory keeps is its file as its calls made it, none of which wrote from behind its end on
pub record IsDisk (file : List ℕ) (steps : List Step) : Type 0 where
  pub file_is : file ≡ content_of steps
  pub within : AreWithin steps

-- what a crash may leave of a call and of the images before it: a write may be torn or missing, and a cut missing
abbrev pub Leaves : Step → (List ℕ → Type 0) → List ℕ → Type 0
Leaves Nothing images image = images image
Leaves (Writes at bytes) images image = (before : List ℕ) × images before × (Torn at (length bytes) before image ⊎ (image ≡ before))
Leaves (Cuts len) images image = (before : List ℕ) × images before × (Shortened len before image ⊎ (image ≡ before))
Leaves Syncs images image = ⊥
Leaves (Starts file) images image = ⊥

-- the files that a crash after these calls may leave
abbrev pub images_of : List Step → List ℕ → Type 0
images_of [] image = image ≡ []
images_of (step ∷ steps) image = (image ≡ content_of (step ∷ steps)) ⊎ Leaves step (images_of steps) image

-- the files that a crash may have left since there were so many calls
abbrev pub left_since_of : List Step → ℕ → List ℕ → Type 0
left_since_of [] t image = (t ≤ 0) × images_of [] image
left_since_of (step ∷ steps) t image = ((t ≤ length (step ∷ steps)) × images_of (step ∷ steps) image) ⊎ left_since_of steps t image

pub reads_an_image_of : (steps : List Step) → images_of steps (content_of steps)
reads_an_image_of [] = refl
reads_an_image_of (step ∷ steps) = inl refl

pub counts_now_of : (steps : List Step) (t : ℕ) (image : List ℕ) → t ≤ length steps → images_of steps image → left_since_of steps t image
counts_now_of [] t image le now = (le, now)
counts_now_of (step ∷ steps) t image le now = inl (le, now)

not_later : (steps : List Step) (t : ℕ) (image : List ℕ) → left_since_of steps t image → t ≤ length steps
not_later [] t image left = left.0
not_later (step ∷ steps) t image (inl now) = now.0
not_later (step ∷ steps) t image (inr left) = let le = not_later steps t image left in omega arith

pub only_now_of : (steps : List Step) (image : List ℕ) → left_since_of steps (length steps) image → images_of steps image
only_now_of [] image left = left.1
only_now_of (step ∷ steps) image (inl now) = now.1
only_now_of (step ∷ steps) image (inr left) = let le = not_later steps (suc (length steps)) image left in absurd (omega arith)

-- time goes on by these calls
abbrev pub Goes : List Step → List Step → Type 0
Goes old new = Elapses (length old) (length new) (left_since_of old) (left_since_of new) (images_of new)

-- a call that did nothing is noted as one; after 2^64 - 1 calls it need not be
abbrev pub IsIdle : List Step → List Step → Type 0
IsIdle old new = (new ≡ Nothing ∷ old) ⊎ ((2 ^ 64 - 1 ≤ length old) × (new ≡ old))

-- a call that did this is noted
abbrev pub Notes : Step → List Step → List Step → Type 0
Notes Nothing old new = IsIdle old new
Notes (Writes at bytes) old new = new ≡ Writes at bytes ∷ old
Notes (Cuts len) old new = new ≡ Cuts len ∷ old
Notes Syncs old new = new ≡ Syncs ∷ old
Notes (Starts file) old new = new ≡ Starts file ∷ old

-- what a call that fails as planned has done all the same: a write and a cut have taken place
abbrev pub taken : Step → Step
taken Nothing = Nothing
taken (Writes at bytes) = Writes at bytes
taken (Cuts len) = Cuts len
taken Syncs = Nothing
taken (Starts file) = Nothing

-- what a call leaves that does this, by its answer: none that is to fail succeeds, and one after the disk has stopped does nothing
abbrev pub Calls : {T E : Type 0} → Step → Result T E → MemState → MemState → Type 0
Calls step (Ok _) old new = (fails_now old.plan ≡ false) × Notes step old.steps new.steps × (new.failures ≡ old.failures) × (new.plan ≡ after_call old.plan)
Calls step (Err _) old new = (IsIdle old.steps new.steps ⊎ ((fails_now old.plan ≡ true) × (is_stopped old.plan ≡ false) × Notes (taken step) old.steps new.steps))
    × HasRisen old.failures new.failures × (new.plan ≡ after_call old.plan)

-- the byte in this place was written since the last sync
abbrev pub is_unsynced : List Step → ℕ → Bool
is_unsynced [] i = false
is_unsynced (Nothing ∷ steps) i = is_unsynced steps i
is_unsynced (Writes at bytes ∷ steps) i = (nat_le at i && nat_lt i (at + length bytes)) || is_unsynced steps i
is_unsynced (Cuts len ∷ steps) i = is_unsynced steps i
is_unsynced (Syncs ∷ steps) i = false
is_unsynced (Starts file ∷ steps) i = false

-- one list is another, but that each byte of some places is this one
pub record IsFilled (places : ℕ → Bool) (byte : ℕ) (old new : List ℕ) : Type 0 where
  pub same_length : length new ≡ length old
  pub each : (i : ℕ) → i < length old → slice_index_or new i 0 ≡ (if places i then byte else slice_index_or old i 0)

-- the file once the power is back: as it was written, or each byte since the last sync is this one
abbrev pub ComesBack : Option ℕ → List Step → List ℕ → Type 0
ComesBack None steps file = file ≡ content_of steps
ComesBack (Some byte) steps file = IsFilled (is_unsynced steps) byte (content_of steps) file

-- What the calls of a disk in memory leave of its images.
use Rattle.std.proofs.Common.{◌≡◌, ◌⊎◌, inl, inr, ⊎_elim, ℕ, ◌+◌, ◌≤◌, List, ◌∷◌, ◌++◌, length, take, drop, refl, ◌∙◌, ap, arith, length-append, append_assoc}
use Rattle.std.specs.Prelude.{Result, Ok, Err}
use Rattle.std.proofs.lemmas.List.{take_at, drop_at, length-take, length-drop}
use Rattle.cns_journal.specs.Disk.{EachImage, Follows, Shortened, Torn, overwritten}
use Rattle.cns_journal.specs.MemDisk.{Calls, Leaves, MemState, Notes, Step, Writes, Cuts, Syncs, IsIdle, content_of, taken, images_of, reads_an_image_of}

-- a call that did nothing leaves no image that was not there
pub fewer_idle : (old new : List Step) → IsIdle old new → EachImage (images_of new) (images_of old)
fewer_idle old new (inr same) image here = rw same.1 at here
fewer_idle old new (inl is) image here = ⊎_elim (λ whole. rw whole (reads_an_image_of old)) (λ before. before) (rw is at here)

-- nor does one that synced
pub fewer_synced : (steps : List Step) → EachImage (images_of (Syncs ∷ steps)) (images_of steps)
fewer_synced steps image here = ⊎_elim (λ whole. rw whole (reads_an_image_of steps)) (λ none. absurd none) here

-- so each image of it is one from before
pub follows_idle : (step : List ℕ → List ℕ → Type 0) (old new : List Step) → IsIdle old new → Follows step (images_of old) (images_of new)
follows_idle step old new idle image here = (image, fewer_idle old new idle image here, inr refl)

-- a whole write is one that a crash may leave
pub torn_whole : (file bytes : List ℕ) (at : ℕ) → at ≤ length file → Torn at (length bytes) file (overwritten file at bytes)
torn_whole file bytes at within = let rest : List ℕ = drop (at + length bytes) file in let front : List ℕ = take at file in
    let whole : overwritten file at bytes ≡ front ++ (bytes ++ rest) = append_assoc front bytes rest in
    let t : length front ≡ at = omega (arith, length-take at file) in
    let l : length (overwritten file at bytes) ≡ at + (length bytes + length rest) = ap length whole ∙ omega (arith, length-append front (bytes ++ rest), length-append bytes rest) in
    let d = length-drop (at + length bytes) file in
    record {
      before = ap (take at) whole ∙ take_at front (bytes ++ rest) at t;
      after = drop_at (front ++ bytes) rest (at + length bytes) (omega (arith, length-append front bytes));
      no_shorter = omega arith;
      no_longer = omega arith;
    }

-- a call that did this follows the calls before it
follows_step : (change : List ℕ → List ℕ → Type 0) (step : Step) (old new : List Step) → new ≡ step ∷ old → change (content_of old) (content_of (step ∷ old))
    → ((image : List ℕ) → Leaves step (images_of old) image → (before : List ℕ) × images_of old before × (change before image ⊎ (image ≡ before))) → Follows change (images_of old) (images_of new)
follows_step change step old new is whole leaves = rw is (λ image here. ⊎_elim (λ same. (content_of old, reads_an_image_of old, inl (rw same whole))) (leaves image) here)

-- whatever it answers
calls_crash : {T E : Type 0} (change : List ℕ → List ℕ → Type 0) (step : Step) (result : Result T E) (old new : MemState) → taken step ≡ step
    → (Notes step old.steps new.steps → Follows change (images_of old.steps) (images_of new.steps)) → Calls step result old new → Follows change (images_of old.steps) (images_of new.steps)
calls_crash change step (Ok _) old new all done called = done called.1
calls_crash change step (Err _) old new all done called = ⊎_elim (follows_idle change old.steps new.steps) (λ failed. done (rw all at failed.2)) called.0

-- what a crash may leave of a write
pub calls_write_crash : {T E : Type 0} (result : Result T E) (old new : MemState) (at : ℕ) (bytes : List ℕ) → Calls (Writes at bytes) result old new → at ≤ length (content_of old.steps)
    → Follows (Torn at (length bytes)) (images_of old.steps) (images_of new.steps)
calls_write_crash result old new at bytes called within = calls_crash (Torn at (length bytes)) (Writes at bytes) result old new refl
    (λ is. follows_step (Torn at (length bytes)) (Writes at bytes) old.steps new.steps is (torn_whole (content_of old.steps) bytes at within) (λ image torn. torn)) called

-- and of a cut
pub calls_cut_crash : {T E : Type 0} (result : Result T E) (old new : MemState) (len : ℕ) → Calls (Cuts len) result old new → Follows (Shortened len) (images_of old.steps) (images_of new.steps)
calls_cut_crash result old new len called = calls_crash (Shortened len) (Cuts len) result old new refl
    (λ is. follows_step (Shortened len) (Cuts len) old.steps new.steps is (inr refl) (λ image cut. cut)) called

-- What a disk in memory has once the power is back is a file that a crash may have left.
use Rattle.std.proofs.Common.{◌≡◌, inl, inr, ℕ, ◌+◌, ◌≤◌, ◌<◌, Bool, false, ◌&&◌, ◌||◌, nat_le, nat_lt, List, [], ◌∷◌, ◌++◌, length, map, take, drop, get_or, reverse, refl, sym, ◌∙◌, ap, arith}
use Rattle.std.specs.Prelude.{if◌then◌else◌}
use Rattle.std.specs.List.{range_with_len}
use Rattle.std.proofs.lemmas.Bool.Decides.{nat_tests}
use Rattle.std.proofs.lemmas.List.{ext_get_or, get_or-take, get_or-drop, length-take, length-drop}
use Rattle.std.proofs.lemmas.List.FromFn.{get_or-map-range_with_len, length-map-range_with_len}
use Rattle.cns_journal.specs.Disk.{Torn, overwritten}
use Rattle.cns_journal.specs.MemDisk.{AreWithin, BeginsWithin, ComesBack, IsDisk, IsFilled, IsIdle, Step, Nothing, Writes, Cuts, Syncs, Starts, content_of, images_of, is_unsynced, reads_an_image_of}
use Rattle.cns_journal.specs.MemCall.{Noted, idled, steps_of}
use Rattle.cns_journal.proofs.MemCallLemmas.{did_noted}
use Rattle.cns_journal.proofs.MemDiskLemmas.{torn_whole}
use Rattle.std.specs.Prelude.{Option, Some, None}

-- the list with this byte in some places
abbrev filled : (ℕ → Bool) → ℕ → List ℕ → List ℕ
filled places byte xs = map (λ i. if places i then byte else get_or xs i 0) (range_with_len 0 (length xs))

-- it is such a list
is_filled : (places : ℕ → Bool) (byte : ℕ) (xs : List ℕ) → IsFilled places byte xs (filled places byte xs)
is_filled places byte xs = record {
  same_length = length-map-range_with_len (λ i. if places i then byte else get_or xs i 0) 0 (length xs);
  each = λ i less. get_or-map-range_with_len (λ k. if places k then byte else get_or xs k 0) 0 (length xs) i i 0 less (omega arith);
}

-- one list with this byte in these places is another, where the lists are the same and so are the places within them
filled_same : (p q : ℕ → Bool) (byte : ℕ) (old old' new new' : List ℕ) → IsFilled p byte old new → IsFilled q byte old' new' → old ≡ old' → ((i : ℕ) → i < length old → p i ≡ q i) → new ≡ new'
filled_same p q byte old old' new new' f f' same are =
    ext_get_or 0 new new' (f.same_length ∙ ap length same ∙ sym f'.same_length) (λ i less. let inside : i < length old = omega (arith, less, f.same_length) in
    f.each i inside ∙ (λ k. if are i inside k then byte else get_or (same k) i 0) ∙ sym (f'.each i (omega (arith, inside, ap length same))))

-- where no place is to be filled, nothing changes
none_filled : (byte : ℕ) (old new : List ℕ) → IsFilled (λ _. false) byte old new → new ≡ old
none_filled byte old new f = filled_same (λ _. false) (λ _. false) byte old old new old f (record { same_length = refl; each = λ i less. refl }) refl (λ i less. refl)

-- the front of a filled list
filled_take : (places : ℕ → Bool) (byte n : ℕ) (old new : List ℕ) → IsFilled places byte old new → IsFilled places byte (take n old) (take n new)
filled_take places byte n old new f = record {
  same_length = omega (arith, length-take n old, length-take n new, f.same_length);
  each = λ i less. let below : i < n = omega (arith, less, length-take n old) in
      rw (get_or-take n new i 0 below, get_or-take n old i 0 below) (f.each i (omega (arith, less, length-take n old)));
}

-- the rest of a filled list
filled_drop : (places : ℕ → Bool) (byte n : ℕ) (old new : List ℕ) → IsFilled places byte old new → IsFilled (λ i. places (n + i)) byte (drop n old) (drop n new)
filled_drop places byte n old new f = record {
  same_length = omega (arith, length-drop n old, length-drop n new, f.same_length);
  each = λ i less. rw (get_or-drop n new i 0, get_or-drop n old i 0) (f.each (n + i) (omega (arith, less, length-drop n old)));
}

-- places outside a write
outside : (at n i : ℕ) (rest : Bool) → (i < at → ((nat_le at i && nat_lt i (at + n)) || rest) ≡ rest) × (at + n ≤ i → ((nat_le at i && nat_lt i (at + n)) || rest) ≡ rest)
outside at n i rest = (λ less. grind (arith, nat_tests), λ le. grind (arith, nat_tests))

-- a file whose bytes since the last sync are filled, after a write, is torn from one that was so before it
torn_filled : (places : ℕ → Bool) (byte : ℕ) (file bytes : List ℕ) (at : ℕ) (old new : List ℕ) → at ≤ length file → IsFilled places byte file old
    → IsFilled (λ i. (nat_le at i && nat_lt i (at + length bytes)) || places i) byte (overwritten file at bytes) new → Torn at (length bytes) old new
torn_filled places byte file bytes at old new within o n =
    let end : ℕ = at + length bytes in
    let whole = torn_whole file bytes at within in
    let old_size = o.same_length in
    let new_size = n.same_length in
    record {
      before = filled_same _ places byte _ _ _ _ (filled_take _ byte at _ _ n) (filled_take places byte at file old o) whole.before
          (λ i less. (outside at (length bytes) i (places i)).0 (omega (arith, less, length-take at (overwritten file at bytes))));
      after = filled_same _ (λ i. places (end + i)) byte _ _ _ _ (filled_drop _ byte end _ _ n) (filled_drop places byte end file old o) whole.after
          (λ i less. (outside at (length bytes) (end + i) (places (end + i))).1 (omega arith));
      no_shorter = omega (arith, whole.no_shorter);
      no_longer = omega (arith, whole.no_longer);
    }

-- a file whose bytes since the last sync are filled is one that a crash may have left
pub filled_image : (byte : ℕ) (steps : List Step) (file : List ℕ) → AreWithin steps → IsFilled (is_unsynced steps) byte (content_of steps) file → images_of steps file
filled_image byte [] file within f = none_filled byte [] file f
filled_image byte (Nothing ∷ steps) file within f = inr (filled_image byte steps file within.1 f)
filled_image byte (Writes at bytes ∷ steps) file within f = let is = is_filled (is_unsynced steps) byte (content_of steps) in
    inr (_, filled_image byte steps _ within.1 is, inl (torn_filled (is_unsynced steps) byte (content_of steps) bytes at _ file within.0 is f))
filled_image byte (Cuts len ∷ steps) file within f = let is = is_filled (is_unsynced steps) byte (content_of steps) in
    inr (_, filled_image byte steps _ within.1 is, inl (inr (filled_same (is_unsynced steps) (is_unsynced steps) byte _ _ file _ f (filled_take (is_unsynced steps) byte len _ _ is) refl (λ i less. refl))))
filled_image byte (Syncs ∷ steps) file within f = inl (none_filled byte (content_of steps) file f)
filled_image byte (Starts start ∷ steps) file within f = inl (none_filled byte start file f)

-- once the power is back, the file is one that a crash may have left
pub comes_back_image : (fill : Option ℕ) (steps : List Step) (file : List ℕ) → AreWithin steps → ComesBack fill steps file → images_of steps file
comes_back_image None steps file within same = rw same (reads_an_image_of steps)
comes_back_image (Some byte) steps file within f = filled_image byte steps file within f

-- a disk keeps its file where one more call did something
pub disk_noted : (file : List ℕ) (old new : List Noted) (step : Step) (idle : ℕ) → new ≡ old ++ record { step = step; idle = idle } ∷ [] → file ≡ content_of (step ∷ idled idle (steps_of (reverse old)))
    → BeginsWithin step (content_of (idled idle (steps_of (reverse old)))) → AreWithin (idled idle (steps_of (reverse old))) → IsDisk file (steps_of (reverse new))
disk_noted file old new step idle is file_is begins within = rw (did_noted old new _ is) (record { file_is = file_is; within = (begins, within) })

-- or nothing
pub within_idle : (old new : List Step) → IsIdle old new → AreWithin old → AreWithin new
within_idle old new (inl is) within = rw is (tt, within)
within_idle old new (inr same) within = rw same.1 within

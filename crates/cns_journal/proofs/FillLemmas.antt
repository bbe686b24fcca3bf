-- What a file becomes where each byte since the last sync is put in its place, from the latest call to the first one.
use Rattle.std.proofs.Common.{◌≡◌, ℕ, zero, suc, ◌+◌, ◌<◌, Bool, ◌&&◌, ◌||◌, nat_le, nat_lt, List, [], ◌∷◌, ◌++◌, length, take, reverse, get_or, slice_index_or, refl, sym, ◌∙◌, ap, arith}
use Rattle.std.specs.Prelude.{if◌then◌else◌}
use Rattle.std.proofs.lemmas.List.{take_more}
use Rattle.cns_journal.specs.MemDisk.{IsFilled, Step, Writes, Cuts, is_unsynced}
use Rattle.cns_journal.specs.MemCall.{Noted, idled, steps_of}
use Rattle.cns_journal.proofs.MemCallLemmas.{did_noted}

-- these places are left, of all that are to be filled
pub record IsLeft (byte : ℕ) (all rest : ℕ → Bool) (old now : List ℕ) : Type 0 where
  pub same_length : length now ≡ length old
  pub each : (i : ℕ) → i < length old → (if rest i then byte else slice_index_or now i 0) ≡ (if all i then byte else slice_index_or old i 0)

-- a byte that is picked twice
pick : (some rest : Bool) (byte x : ℕ) → (if rest then byte else (if some then byte else x)) ≡ (if (some || rest) then byte else x)
pick some rest byte x = grind arith

-- some of them are filled
pub some_filled : (byte : ℕ) (all rest some left : ℕ → Bool) (old now new : List ℕ) → IsLeft byte all rest old now → IsFilled some byte now new
    → ((i : ℕ) → rest i ≡ (some i || left i)) → IsLeft byte all left old new
some_filled byte all rest some left old now new before filled are = record {
  same_length = filled.same_length ∙ before.same_length;
  each = λ i less. rw (filled.each i (omega (arith, less, before.same_length)), pick (some i) (left i) byte (slice_index_or now i 0), ← are i) (before.each i less);
}

-- none of them is filled
pub none_filled : (byte : ℕ) (all rest left : ℕ → Bool) (old now : List ℕ) → IsLeft byte all rest old now → ((i : ℕ) → rest i ≡ left i) → IsLeft byte all left old now
none_filled byte all rest left old now before are = record { same_length = before.same_length; each = λ i less. rw (← are i) (before.each i less) }

-- calls that did nothing wrote nothing
unsynced_idled : (n : ℕ) (steps : List Step) (i : ℕ) → is_unsynced (idled n steps) i ≡ is_unsynced steps i
unsynced_idled zero steps i = refl
unsynced_idled (suc n) steps i = unsynced_idled n steps i

-- the places of the calls up to one of them
abbrev pub places_of : List Noted → ℕ → Bool
places_of calls = is_unsynced (steps_of (reverse calls))

-- the calls up to one of them end with it
last_noted : (calls : List Noted) (left : ℕ) (noted : Noted) (step : Step) → left < length calls → noted ≡ get_or calls left noted → noted.step ≡ step
    → steps_of (reverse (take (left + 1) calls)) ≡ step ∷ idled noted.idle (steps_of (reverse (take left calls)))
last_noted calls left noted step less is step_is =
    did_noted (take left calls) (take (left + 1) calls) noted (take_more calls left noted less ∙ ap (λ n. take left calls ++ n ∷ []) (sym is)) ∙ ap (λ s. s ∷ idled noted.idle (steps_of (reverse (take left calls)))) step_is

-- the latest of the calls was a write
pub last_writes : (calls : List Noted) (left : ℕ) (noted : Noted) (at : ℕ) (bytes : List ℕ) → left < length calls → noted ≡ get_or calls left noted → noted.step ≡ Writes at bytes
    → (i : ℕ) → places_of (take (left + 1) calls) i ≡ ((nat_le at i && nat_lt i (at + length bytes)) || places_of (take left calls) i)
last_writes calls left noted at bytes less is step i = rw (last_noted calls left noted (Writes at bytes) less is step, unsynced_idled noted.idle (steps_of (reverse (take left calls))) i) refl

-- or a cut
pub last_cuts : (calls : List Noted) (left : ℕ) (noted : Noted) (len : ℕ) → left < length calls → noted ≡ get_or calls left noted → noted.step ≡ Cuts len
    → (i : ℕ) → places_of (take (left + 1) calls) i ≡ places_of (take left calls) i
last_cuts calls left noted len less is step i = rw (last_noted calls left noted (Cuts len) less is step) (unsynced_idled noted.idle (steps_of (reverse (take left calls))) i)

-- the calls that did nothing wrote nothing
pub filled_whole : (idle : ℕ) (calls : List Noted) (byte : ℕ) (old new : List ℕ) → IsFilled (places_of calls) byte old new → IsFilled (is_unsynced (idled idle (steps_of (reverse calls)))) byte old new
filled_whole idle calls byte old new filled = record { same_length = filled.same_length; each = λ i less. rw (unsynced_idled idle (steps_of (reverse calls)) i) (filled.each i less) }

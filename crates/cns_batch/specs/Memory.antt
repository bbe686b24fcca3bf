-- The text of an input where no event is refused for want of memory (this project's own rule).
use Rattle.std.specs.Prelude.{◌≡◌, ℕ, Bool, true, false, List, [], Option, Ok, All}
use Rattle.cns_records.specs.declared.refusal.Refusal.TheVariants as refusal
use Rattle.cns_system.specs.Scene.{Chance}
use Rattle.cns_system.specs.declared.outcome.Outcome.TheVariants as outcomes
use Rattle.cns_batch.specs.InTurn.{Came, Occurrence}
use Rattle.cns_batch.specs.Text.{Input, first_scene, input_of, run_from, text_by}

-- whether an event was refused for want of memory
abbrev pub was_short : Occurrence → Bool
was_short (Came event (outcomes.Refused refusal.OutOfMemory) scene) = true
was_short _ = false

-- no event was
abbrev pub HadMemory : List Occurrence → Type 0
HadMemory occurred = All (λ (o : Occurrence). was_short o ≡ false) occurred

-- over keepers in memory, whatever comes between, the text is of the bytes and of the number that shakes the run alone where no event that occurs is refused for want of memory
abbrev pub IsOfBytes : Type 0
IsOfBytes = (shake : Option ℕ) (chances : List Chance) (bytes : List ℕ) (input : Input) → input_of bytes ≡ Ok input
    → HadMemory (run_from shake chances (first_scene input.openings) input).occurred → text_by shake chances bytes ≡ text_by shake [] bytes

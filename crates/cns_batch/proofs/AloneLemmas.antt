-- Over honest keepers of which all is known, an act does what it does where nothing comes between, where no event is refused for want of memory.
use Rattle.std.proofs.Common.{◌≡◌, ◌≢◌, ℕ, Bool, true, false, get_or, List, [], ◌∷◌, ◌++◌, drop, None, Result, Ok, inl, inr, refl, sym, ap, ◌∙◌}
use Rattle.std.proofs.lemmas.Bool.{cases_Bool}
use Rattle.std.proofs.lemmas.List.Elements.{All-head, All-tail}
use Rattle.cns_records.specs.declared.refusal.Refusal.TheVariants as refusal
use Rattle.cns_trades.specs.declared.opening.Opening.{Opening}
use Rattle.cns_system.specs.Happens.{Goes}
use Rattle.cns_system.specs.Scene.{Decides, Scene, comes_to, is_planner, with_failure_planned}
use Rattle.cns_system.specs.declared.event.Event.{Event}
use Rattle.cns_system.specs.declared.event.NodeName.{NodeName}
use Rattle.cns_system.specs.declared.event.NodeName.TheVariants as node
use Rattle.cns_system.specs.declared.outcome.Outcome.{Outcome}
use Rattle.cns_system.specs.declared.outcome.Outcome.TheVariants as outcomes
use Rattle.cns_input.specs.declared.fault.BatchFault.{BatchFault}
use Rattle.cns_batch.specs.Acts.{Act, Draws, Gives, Lets, Looks, Plans, Tells}
use Rattle.cns_batch.specs.Commands.{served_in_turn}
use Rattle.cns_batch.specs.InTurn.{Came, Course, Occurrence, Told, WasPlanned, after_all, in_turn}
use Rattle.cns_batch.specs.Memory.{HadMemory, IsOfBytes, was_short}
use Rattle.cns_batch.specs.Text.{first_scene, script_of, text_from}
use Rattle.cns_batch.proofs.MemoryLemmas.{AreKnown, comes_alone}
use Rattle.cns_batch.proofs.TextLemmas.{text_in}

-- a course where nothing comes between any more
abbrev alone : Course → Course
alone c = record c { chances = [] }

abbrev told_alone : {A : Type 0} → Told A → Told A
told_alone told = record told { course = alone told.course }

abbrev GoesAlone : {A : Type 0} → Act A → Course → Type 0
GoesAlone act c = HadMemory (in_turn act c).occurred → in_turn act (alone c) ≡ told_alone (in_turn act c)

not_short : (e : Event) (o : Outcome) (s : Scene) → was_short (Came e o s) ≡ false → o ≢ outcomes.Refused refusal.OutOfMemory
not_short e o s had is = absurd (cc (sym had ∙ ap (λ (o : Outcome). was_short (Came e o s)) is))

planned_known : (name : NodeName) (stands : Bool) (s : Scene) → AreKnown s → AreKnown (with_failure_planned name stands s)
planned_known node.Clear stands s known = (record { honest = known.0.honest; foreseen = refl; stands = known.0.stands }, known.1)
planned_known node.Depot stands s known = (known.0, record { honest = known.1.honest; foreseen = refl; stands = known.1.stands })

act_alone : {A : Type 0} (act : Act A) (c : Course) → AreKnown c.scene → GoesAlone act c
unfolding in_turn
act_alone (Gives a) c known had = refl
act_alone (Tells text next) c known had = ap (after_all text []) (act_alone next c known had)
act_alone {A} (Lets e next) c known had =
    let came = comes_to (get_or c.chances 0 (Decides Goes)) e c.scene in
    let after : Course = record { scene = came.1; chances = drop 1 c.chances } in
    let rest = (in_turn (next came.0) after).occurred in
    let now = All-head (λ (o : Occurrence). was_short o ≡ false) (Came e came.0 came.1) rest had in
    let same = comes_alone (get_or c.chances 0 (Decides Goes)) e c.scene known (not_short e came.0 came.1 now) in
    let later = act_alone (next came.0) after same.1 (All-tail (λ (o : Occurrence). was_short o ≡ false) (Came e came.0 came.1) rest had) in
    ap (λ (came : Outcome × Scene). after_all [] (Came e came.0 came.1 ∷ []) (in_turn (next came.0) (record { scene = came.1; chances = [] }))) (sym same.0)
    ∙ ap (after_all [] (Came e came.0 came.1 ∷ [])) later
act_alone (Plans name stands next) c known had =
    let scene = with_failure_planned name stands c.scene in
    let after : Course = record c { scene = scene } in
    elim (cases_Bool (is_planner name c.scene)) [
      | inl is ↦
          let later = All-tail (λ (o : Occurrence). was_short o ≡ false) (WasPlanned name stands scene) (in_turn (next true) after).occurred (rw is at had) in
          rw is (ap (after_all [] (WasPlanned name stands scene ∷ [])) (act_alone (next true) after (planned_known name stands c.scene known) later))
      | inr is ↦ rw is (act_alone (next false) c known (rw is at had))
    ]
act_alone (Looks next) c known had = act_alone (next c.scene.shown) c known had
act_alone (Draws lot next) c known had = act_alone (next None) c known had

first_known : (openings : List Opening) → AreKnown (first_scene openings)
first_known openings = (record { honest = refl; foreseen = refl; stands = inl refl }, record { honest = refl; foreseen = refl; stands = inl refl })

pub is_of_bytes : IsOfBytes
is_of_bytes shake chances bytes input is had =
    let scene = first_scene input.openings in
    let c : Course = record { scene = scene; chances = chances } in
    let one = act_alone (script_of served_in_turn shake input) c (first_known input.openings) had in
    let same : text_from shake chances scene input ≡ text_from shake [] scene input = ap (λ l. input.told ++ l) (sym (ap (λ t. t.text) one)) in
    let texts : List ℕ → Result (List ℕ) BatchFault = λ t. Ok t in
    ap (text_in shake chances) is ∙ ap texts same ∙ sym (ap (text_in shake []) is)

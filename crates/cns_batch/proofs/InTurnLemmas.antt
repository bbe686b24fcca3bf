-- A way through an act whose events happened to both nodes one after another is the act in turn.
use Rattle.std.proofs.Common.{◌≡◌, true, false, ℕ, List, [], ◌∷◌, ◌++◌, refl, sym, ap, ◌∙◌, append_assoc}
use Rattle.std.proofs.lemmas.List.Sums.{fold-append}
use Rattle.cns_system.specs.Scene.{Chance, Scene, with_failure_planned, scene_of}
use Rattle.cns_system.specs.World.{World}
use Rattle.cns_system.specs.declared.outcome.Outcome.{Outcome}
use Rattle.cns_batch.specs.Acts.{Act, Draws, Gives, Lets, Looks, Plans, Tells}
use Rattle.cns_batch.specs.InTurn.{Came, Course, LeadsInTurn, Occurrence, WasPlanned, after_all, in_turn, scene_after, scene_at}
use Rattle.cns_batch.specs.Runs.{Exchange, ActLeaves, IsLed, IsNextExchange, Leads, text_in, text_said}

abbrev pub course : World → List Chance → Course
course w chances = record { scene = scene_of w; chances = chances }

-- an act has come so far in turn
pub record HasComeInTurn {A : Type 0} (text : List ℕ) (act left : Act A) (old new : World) : Type 0 where
  pub chances : List Chance
  pub occurred : List Occurrence
  pub act_is : (more : List Chance) → in_turn act (course old (chances ++ more)) ≡ after_all text occurred (in_turn left (course new more))
  pub scene : scene_of new ≡ scene_at (scene_of old) occurred

-- one exchange
next_in_turn : {A : Type 0} (e : Exchange) (act left : Act A) (old new : World) → IsNextExchange e act left → Leads LeadsInTurn e old new → HasComeInTurn (text_in e) act left old new
unfolding in_turn
next_in_turn e (Gives a) left old new is leads = absurd is
next_in_turn e (Tells text next) left old new (is, same) leads =
    let stays = rw is at leads in rw (is, same, stays) (record { chances = []; occurred = []; act_is = λ more. refl; scene = refl })
next_in_turn e (Lets event next) left old new (o, is, same) leads =
    let (chance, told, came) = rw is at leads in
    rw (is, same)
    (record {
      chances = chance ∷ [];
      occurred = Came event o (scene_of new) ∷ [];
      act_is = λ more. ap (λ (came : Outcome × Scene). after_all [] (Came event came.0 came.1 ∷ []) (in_turn (next came.0) (record { scene = came.1; chances = more }))) came;
      scene = refl;
    })
next_in_turn e (Plans name stands next) left old new (true, is, same) leads =
    let (planner, scene) = rw is at leads in
    rw (is, same)
    (record { chances = []; occurred = WasPlanned name stands (with_failure_planned name stands (scene_of old)) ∷ []; act_is = λ more. rw (planner, scene) refl; scene = scene })
next_in_turn e (Plans name stands next) left old new (false, is, same) leads =
    let (planner, scene) = rw is at leads in rw (is, same) (record { chances = []; occurred = []; act_is = λ more. rw (planner, scene) refl; scene = scene })
next_in_turn e (Looks next) left old new (w, is, same) leads =
    let (shown, stays) = rw is at leads in rw (is, same, shown, stays) (record { chances = []; occurred = []; act_is = λ more. refl; scene = refl })
next_in_turn e (Draws lot next) left old new (haul, is, same) leads = absurd (rw is at leads)

come_more : {A : Type 0} {s t : List ℕ} {a b d : Act A} {p q r : World} → HasComeInTurn s a b p q → HasComeInTurn t b d q r → HasComeInTurn (s ++ t) a d p r
come_more {s = s} {t = t} {a = a} {d = d} {p = p} {r = r} one two = record {
  chances = one.chances ++ two.chances;
  occurred = one.occurred ++ two.occurred;
  act_is = λ more.
      let told = in_turn d (course r more) in
      ap (λ cs. in_turn a (course p cs)) (append_assoc one.chances two.chances more) ∙ one.act_is (two.chances ++ more) ∙ ap (after_all s one.occurred) (two.act_is more)
      ∙ rw (append_assoc s t told.text, append_assoc one.occurred two.occurred told.occurred) refl;
  scene = two.scene ∙ ap (λ s. scene_at s two.occurred) one.scene ∙ sym (fold-append (λ (s : Scene) (o : Occurrence). scene_after o) (scene_of p) one.occurred two.occurred);
}

-- and all of them
pub all_in_turn : {A : Type 0} (said : List Exchange) (act left : Act A) (old new : World) → ActLeaves act said left → IsLed LeadsInTurn said old new → HasComeInTurn (text_said said) act left old new
all_in_turn [] act left old new same stays = rw (same, stays) (record { chances = []; occurred = []; act_is = λ more. refl; scene = refl })
all_in_turn (e ∷ said) act left old new (next, is, rest) (between, leads, led) = come_more (next_in_turn e act next old between is leads) (all_in_turn said next left between new rest led)

-- What an act does where its events happen to both nodes one after another (this project's own rules).
use Rattle.std.specs.Prelude.{◌≡◌, Bool, true, false, List, [], ◌∷◌, ◌++◌, ℕ, None, drop, get_or, if◌then◌else◌}
use Rattle.std.specs.List.{fold}
use Rattle.cns_system.specs.Happens.{Goes}
use Rattle.cns_system.specs.Scene.{Chance, Comes, Decides, Scene, comes_to, is_planner, with_failure_planned, scene_of}
use Rattle.cns_system.specs.Shown.{shown_of}
use Rattle.cns_system.specs.World.{World}
use Rattle.cns_system.specs.declared.event.Event.{Event}
use Rattle.cns_system.specs.declared.event.NodeName.{NodeName}
use Rattle.cns_system.specs.declared.outcome.Outcome.{Outcome}
use Rattle.cns_batch.specs.Acts.{Act, Draws, Gives, Lets, Looks, Plans, Tells}
use Rattle.cns_batch.specs.Runs.{Exchange}
use Rattle.cns_batch.specs.Runs as x

-- both nodes and the link with what is known of the keepers, and what comes between at the next events
pub record Course : Type 0 where
  pub scene : Scene
  pub chances : List Chance

-- what occurs to both nodes, with the scene that it leaves: an event came to an outcome, or the next commit of a node was planned to fail
pub data Occurrence : Type 0 where
  Came : Event → Outcome → Scene → Occurrence
  WasPlanned : NodeName → Bool → Scene → Occurrence

abbrev pub scene_after : Occurrence → Scene
scene_after (Came event outcome scene) = scene
scene_after (WasPlanned name stands scene) = scene

-- the scene after all that occurred, from a scene on
abbrev pub scene_at : Scene → List Occurrence → Scene
scene_at scene occurred = fold (λ (s : Scene) (o : Occurrence). scene_after o) scene occurred

-- what an act leaves and tells, what occurs by it, in its order, and what it gives
pub record Told (A : Type 0) : Type 0 where
  pub course : Course
  pub text : List ℕ
  pub occurred : List Occurrence
  pub value : A

-- a text before what is told, and what occurred before
abbrev pub after_all : {A : Type 0} → List ℕ → List Occurrence → Told A → Told A
after_all text occurred told = record told { text = text ++ told.text; occurred = occurred ++ told.occurred }

-- an act in turn. An event happens by the first of what comes between, and by nothing where nothing is left of that; a failure is planned
-- where the node's keeper plans failures; and no workers draw
unfoldable pub in_turn : {A : Type 0} → Act A → Course → Told A
in_turn (Gives a) c = record { course = c; text = []; occurred = []; value = a }
in_turn (Tells text next) c = after_all text [] (in_turn next c)
in_turn (Lets e next) c =
    let (outcome, scene) = comes_to (get_or c.chances 0 (Decides Goes)) e c.scene in
    after_all [] (Came e outcome scene ∷ []) (in_turn (next outcome) (record { scene = scene; chances = drop 1 c.chances }))
in_turn (Plans name stands next) c =
    let scene = with_failure_planned name stands c.scene in
    if is_planner name c.scene then after_all [] (WasPlanned name stands scene ∷ []) (in_turn (next true) (record c { scene = scene })) else in_turn (next false) c
in_turn (Looks next) c = in_turn (next c.scene.shown) c
in_turn (Draws lot next) c = in_turn (next None) c

-- an exchange with both nodes leads from the one to the other so
abbrev pub LeadsInTurn : Exchange → World → World → Type 0
LeadsInTurn (x.Came e outcome) old new = Comes e outcome old new
LeadsInTurn (x.Planned name stands true) old new = (is_planner name (scene_of old) ≡ true) × (scene_of new ≡ with_failure_planned name stands (scene_of old))
LeadsInTurn (x.Planned name stands false) old new = (is_planner name (scene_of old) ≡ false) × (scene_of new ≡ scene_of old)
LeadsInTurn (x.Showed w) old new = (w ≡ shown_of old) × (new ≡ old)
LeadsInTurn _ old new = ⊥

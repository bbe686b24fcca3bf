-- What a run of events comes to, and what is so after each of them (this project's own rules).
use Rattle.std.specs.Prelude.{◌≡◌, List, [], ◌∷◌}
use Rattle.cns_system.specs.Accord.{IsInAccord, StaysSound}
use Rattle.cns_system.specs.Headline.{AreStrict, IsAgreed}
use Rattle.cns_system.specs.Scene.{Comes}
use Rattle.cns_system.specs.World.{AreFrames, World}
use Rattle.cns_system.specs.declared.event.Event.{Event}
use Rattle.cns_system.specs.declared.outcome.Outcome.{Outcome}

-- all that is so of an event: what it comes to and leaves; what it does not come to; that both nodes and the link are in accord after it, each packet
-- is a frame, and the headline; and that allocations close lots where they did before it
pub record Occurs (event : Event) (outcome : Outcome) (old new : World) : Type 0 where
  pub comes : Comes event outcome old new
  pub sound : StaysSound old event outcome
  pub accord : IsInAccord new
  pub frames : AreFrames new.order_packets new.reply_packets
  pub agreed : IsAgreed new
  pub strict : AreStrict old → AreStrict new

-- events happen and come to these outcomes, one after another
abbrev pub Run : List Event → List Outcome → World → World → Type 0
Run [] [] old new = new ≡ old
Run (event ∷ events) (outcome ∷ outcomes) old new = (between : World) × Occurs event outcome old between × Run events outcomes between new
Run [] (outcome ∷ outcomes) old new = ⊥
Run (event ∷ events) [] old new = ⊥

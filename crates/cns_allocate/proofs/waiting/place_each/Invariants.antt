use Rattle.std.proofs.Common.{◌≡◌, length, take, true}
use Rattle.std.specs.Prelude.{All}
use Rattle.cns_allocate.specs.Waiting.{ArePlaces, is_placed}
use Rattle.cns_allocate.specs.declared.planned.Planned.{Planned}
use Rattle.cns_allocate.proofs.WaitingLemmas.{HasMember}
use Rattle.cns_allocate.proofs.waiting.place_each.Given as goal

abbrev pub invariant-loop-place : goal.invariant-loop-place
invariant-loop-place l = record {
  size : length l.places ≡ 10000;
  places_are : ArePlaces l.plan l.places;
  placed_all : All (λ (p : Planned). is_placed l.places p ≡ true) (take l.place l.plan);
  members : All HasMember (take l.place l.plan);
}

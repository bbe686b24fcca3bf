use Rattle.std.proofs.Common.{◌≡◌, take}
use Rattle.std.specs.Prelude.{All}
use Rattle.cns_system.specs.Floor.{BusyLot}
use Rattle.cns_system.proofs.floor.place_of.Given as goal

abbrev pub invariant-loop-place : goal.invariant-loop-place
invariant-loop-place l = All (λ (b : BusyLot). b.lot ≡ l.lot → ⊥) (take l.place l.busy)

use Rattle.std.proofs.Common.{subst}
use Rattle.cns_system.specs.Floor.{FloorState, IsLawfulFloor}
use Rattle.cns_system.proofs.floor.Floor.lawful.Goals as goal

pub returns : goal.returns
returns g c =
    let f : FloorState = record { system = c.self.inside.system; busy = c.self.inside.busy.items } in
    let lawful : IsLawfulFloor f = record {
      accord = c.agreed.ensures.accord;
      frames = c.agreed.ensures.frames;
      headline = c.agreed.ensures.headline;
      busy = c.self.invariant;
    } in
    subst IsLawfulFloor c.self.view_is lawful

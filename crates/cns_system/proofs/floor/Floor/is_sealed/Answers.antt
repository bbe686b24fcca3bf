use Rattle.std.proofs.Common.{◌∙◌}
use Rattle.cns_system.specs.Floor.{FloorState}
use Rattle.cns_system.proofs.FinishLemmas.{sealed_here, sealed_nowhere}
use Rattle.cns_system.proofs.floor.Floor.is_sealed.Goals as goal

pub returns-in-Some : goal.returns-in-Some
returns-in-Some g c =
    let f : FloorState = record { system = c.self.inside.system; busy = c.self.inside.busy.items } in
    c.is_sealed.ensures
    ∙ sealed_here f c.args.self.now c.args.lot c.in-Some.place c.as_slice.result.now c.index-one.result.now c.self.view_is c.as_slice.ensures.value c.in-Some.ensures c.index-one.ensures

pub returns-in-None : goal.returns-in-None
returns-in-None g c =
    let f : FloorState = record { system = c.self.inside.system; busy = c.self.inside.busy.items } in
    sealed_nowhere f c.args.self.now c.args.lot c.as_slice.result.now c.self.view_is c.as_slice.ensures.value c.in-None.ensures

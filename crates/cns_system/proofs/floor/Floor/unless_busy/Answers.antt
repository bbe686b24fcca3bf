use Rattle.std.proofs.Common.{◌∙◌, ap}
use Rattle.cns_system.specs.Floor.{FloorState}
use Rattle.cns_system.proofs.FloorLemmas.{unless_spared}
use Rattle.cns_system.proofs.floor.Floor.unless_busy.Goals as goal

pub by_system-requires : goal.by_system-requires
by_system-requires g c =
    unless_spared c.args.event c.args.lot c.args.self.now c.as_slice.result.now (c.as_slice.ensures.value ∙ ap (λ (f : FloorState). f.busy) c.self.view_is) c.requires c.in-None.ensures

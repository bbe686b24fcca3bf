use Rattle.std.proofs.Common.{refl}
use Rattle.cns_system.specs.declared.event.Event.TheVariants as event
use Rattle.cns_system.proofs.FloorLemmas.{unless_spared}
use Rattle.cns_system.proofs.floor.Floor.close.Goals as goal

pub by_system-closed-requires : goal.by_system-closed-requires
by_system-closed-requires g c = unless_spared (event.LotClose c.args.lot) c.args.lot c.args.self.now c.args.self.now.busy refl refl c.requires.free

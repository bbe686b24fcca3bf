use Rattle.std.proofs.Common.{◌∷◌, [], inl, refl}
use Rattle.cns_system.specs.declared.event.Event.TheVariants as event
use Rattle.cns_system.proofs.FinishLemmas.{seal_refused}
use Rattle.cns_system.proofs.FloorLemmas.{unless_spared}
use Rattle.cns_system.proofs.floor.Floor.seal_and_close.Goals as goal

pub by_system-requires : goal.by_system-requires
by_system-requires g c = unless_spared (event.Seal c.args.lot) c.args.lot c.args.self.now c.args.self.now.busy refl refl c.requires.free

pub returns-in_default : goal.returns-in_default
returns-in_default g c =
    let refused = seal_refused c.args.lot c.by_system.result c.args.self.now.system c.by_system.new.self.system c.by_system.ensures.0 c.in_default.not-Done in
    record {
      told = (c.by_system.result ∷ [], c.push_reserved-in_default.ensures.items, inl (c.by_system.result, refl, refused, c.by_system.ensures.0));
      busy = c.by_system.ensures.1;
    }

use Rattle.std.proofs.Common.{refl}
use Rattle.cns_system.specs.Floor.{busy_with_seal}
use Rattle.cns_system.proofs.FloorLemmas.{changes_at, match_some, seal_leaves, seal_spared}
use Rattle.cns_system.proofs.floor.Floor.seal.Goals as goal

pub invariant_of-self : goal.invariant_of-self
invariant_of-self g c =
    (changes_at busy_with_seal seal_leaves (record { system = c.self.inside.system; busy = c.self.inside.busy.items }) c.args.self.now c.args.lot c.in-Some.place c.index_mut-one.result.now
    c.seal.new.self c.self.view_is c.in-Some.ensures c.index_mut-one.ensures.value c.seal.ensures c.self.invariant).kept

pub by_system-requires : goal.by_system-requires
by_system-requires g c = seal_spared c.args.self.now c.args.lot c.in-None.ensures

pub returns-in-Some : goal.returns-in-Some
returns-in-Some g c =
    let sealed =
    changes_at busy_with_seal seal_leaves (record { system = c.self.inside.system; busy = c.self.inside.busy.items }) c.args.self.now c.args.lot c.in-Some.place c.index_mut-one.result.now
    c.seal.new.self c.self.view_is c.in-Some.ensures c.index_mut-one.ensures.value c.seal.ensures c.self.invariant in
    match_some _ _ _ c.index_mut-one.result.now sealed.found (refl, sealed.changed)

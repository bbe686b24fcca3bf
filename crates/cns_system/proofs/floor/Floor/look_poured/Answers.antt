use Rattle.std.proofs.Common.{ap}
use Rattle.cns_system.specs.declared.outcome.Outcome.TheVariants as outcomes
use Rattle.cns_system.proofs.FloorLemmas.{looks_at, match_some}
use Rattle.cns_system.proofs.floor.Floor.look_poured.Goals as goal

pub returns-in-Some : goal.returns-in-Some
returns-in-Some g c =
    let looks =
    looks_at (record { system = c.self.inside.system; busy = c.self.inside.busy.items }) c.args.self.now c.args.lot c.in-Some.place c.index_mut-one.result.now c.look_poured.new.self c.self.view_is
    c.in-Some.ensures c.index_mut-one.ensures.value c.look_poured.ensures.same in
    match_some _ _ _ c.index_mut-one.result.now looks.found (ap outcomes.LookedPoured c.look_poured.ensures.shown, looks.same)

use Rattle.std.proofs.Common.{ap}
use Rattle.cns_system.specs.Floor.{busy_with_look}
use Rattle.cns_system.specs.declared.outcome.Outcome.TheVariants as outcomes
use Rattle.cns_system.proofs.FloorLemmas.{changes_at, look_leaves, match_some}
use Rattle.cns_system.proofs.floor.Floor.look_asked.Goals as goal

pub invariant_of-self : goal.invariant_of-self
invariant_of-self g c =
    (changes_at (busy_with_look c.look_asked-sum.result.sum) (look_leaves c.look_asked-sum.result.sum) (record { system = c.self.inside.system; busy = c.self.inside.busy.items }) c.args.self.now
    c.args.lot c.in-Some.place c.index_mut-one.result.now c.look_asked-sum.new.self c.self.view_is c.in-Some.ensures c.index_mut-one.ensures.value c.look_asked-sum.ensures.seen c.self.invariant).kept

pub returns-in-Some : goal.returns-in-Some
returns-in-Some g c =
    let looked =
    changes_at (busy_with_look c.look_asked-sum.result.sum) (look_leaves c.look_asked-sum.result.sum) (record { system = c.self.inside.system; busy = c.self.inside.busy.items }) c.args.self.now
    c.args.lot c.in-Some.place c.index_mut-one.result.now c.look_asked-sum.new.self c.self.view_is c.in-Some.ensures c.index_mut-one.ensures.value c.look_asked-sum.ensures.seen c.self.invariant in
    match_some _ _ _ c.index_mut-one.result.now looked.found (record {
      asked = c.look_asked-sum.result.sum;
      told = ap (outcomes.LookedAsked c.look_asked-sum.result.sum) c.look_asked-sum.ensures.sealed;
      least = c.look_asked-sum.ensures.least;
      seen = looked.changed;
    })

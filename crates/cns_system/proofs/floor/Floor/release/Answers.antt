use Rattle.std.proofs.Common.{ap, refl, subst, sym, ◌∙◌}
use Rattle.cns_system.specs.Floor.{AreBusy, FloorState, busy_at}
use Rattle.cns_system.proofs.FinishLemmas.{left_busy, released_from, still_busy}
use Rattle.cns_system.proofs.OnePlanLemmas.{busy_unserved}
use Rattle.cns_system.proofs.floor.Floor.release.Goals as goal

pub invariant_of-self : goal.invariant_of-self
invariant_of-self g c =
    let f : FloorState = record { system = c.self.inside.system; busy = c.self.inside.busy.items } in
    let left = left_busy f c.args.lot c.in_ok-place.place c.as_slice.result.now c.remove-one.new.self.items c.as_slice.ensures.value c.in_ok-place.ensures c.remove-one.ensures.by_index.2 c.self.invariant.order in
    subst (AreBusy c.self.inside.system.clear) (sym left) (still_busy c.args.lot c.self.inside.system.clear c.self.inside.busy.items c.self.invariant)

pub returns-clause-released : goal.returns-clause-released
returns-clause-released g c =
    let f : FloorState = record { system = c.self.inside.system; busy = c.self.inside.busy.items } in
    let left = left_busy f c.args.lot c.in_ok-place.place c.as_slice.result.now c.remove-one.new.self.items c.as_slice.ensures.value c.in_ok-place.ensures c.remove-one.ensures.by_index.2 c.self.invariant.order in
    released_from f c.args.self.now c.args.lot c.in_ok-place.place c.as_slice.result.now c.remove-one.new.self.items c.remove-one.result c.look_asked.result.sealed c.self.view_is
    c.as_slice.ensures.value c.in_ok-place.ensures left c.remove-one.ensures.value c.look_asked.ensures.sealed

pub returns-clause-unserved : goal.returns-clause-unserved
returns-clause-unserved g c =
    let f : FloorState = record { system = c.self.inside.system; busy = c.self.inside.busy.items } in
    λ is. busy_unserved c.args.lot f f c.in_ok-place.ensures.0 (ap (λ bs. busy_at bs c.args.lot) (sym c.as_slice.ensures.value) ∙ c.in_ok-place.ensures.1) c.self.invariant refl

use Rattle.std.proofs.Common.{◌≡◌, ◌<◌, ◌-◌, ◌∙◌, ℕ, Some, ap, sym, get_or, arith}
use Rattle.std.specs.Prelude.{find}
use Rattle.cns_allocate.proofs.PlanLemmas.{is_planned_as}
use Rattle.cns_allocate.proofs.WaitingLemmas.{find_placed, find_unplaced}
use Rattle.cns_allocate.proofs.waiting.Waiting.planned_as.Goals as goal

pub returns-in-0 : goal.returns-in-0
returns-in-0 c =
    let at = c.self.inside in
    let none : get_or at.places.now c.args.member 0 ≡ 0 = sym c.place_of.ensures ∙ c.in-0.is in
    sym (ap (find (is_planned_as c.args.member)) (sym c.self.view_is) ∙ find_unplaced at.plan.now at.places.now c.args.member none)

pub returns-in_default : goal.returns-in_default
returns-in_default c =
    let at = c.self.inside in
    let place : c.place_of.result ≡ get_or at.places.now c.args.member 0 = c.place_of.ensures in
    let some : 0 < get_or at.places.now c.args.member 0 = omega arith in
    sym
    (ap (find (is_planned_as c.args.member)) (sym c.self.view_is)
    ∙ find_placed at.plan.now at.places.now c.args.member c.index-self-place.result c.self.invariant.lawful c.self.invariant.places_are some
    ∙ ap (λ (k : ℕ). Some (get_or at.plan.now (k - 1) c.index-self-place.result)) (sym place))

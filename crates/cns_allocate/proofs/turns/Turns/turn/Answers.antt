use Rattle.std.proofs.Common.{◌≡◌, ◌∙◌, ◌-◌, List, ap, drop, length, subst, take}
use Rattle.std.specs.Prelude.{find, slice_get}
use Rattle.std.proofs.lemmas.List.{take_rest}
use Rattle.cns_allocate.specs.Plan.{IsPlan}
use Rattle.cns_allocate.specs.declared.planned.Planned.{Planned}
use Rattle.cns_allocate.proofs.PlanLemmas.{is_planned_as}
use Rattle.cns_allocate.proofs.turns.Turns.turn.Goals as goal

pub returns : goal.returns
returns c =
    let at = c.self.inside in
    let all = c.deref.result.now in
    let waiting : take (length all - at.start) (drop at.start all) ≡ c.args.self.now = rw c.deref.ensures.value (take_rest at.list.items at.start ∙ c.self.view_is) in
    c.turn_among.ensures c.args.self.now c.args.member (subst IsPlan c.self.view_is c.self.invariant.1) (c.first.ensures.value ∙ ap (λ (l : List Planned). slice_get l 0) waiting)
    (c.planned_as.ensures ∙ ap (find (is_planned_as c.args.member)) waiting)

use Rattle.std.proofs.Common.{◌∙◌, List, ap, subst}
use Rattle.std.specs.Prelude.{slice_get}
use Rattle.cns_ids.proofs.ListLemmas.{read_copied}
use Rattle.cns_allocate.specs.Plan.{IsPlan}
use Rattle.cns_allocate.specs.Waiting.{is_placed}
use Rattle.cns_allocate.specs.declared.planned.Planned.{Planned}
use Rattle.cns_allocate.proofs.TurnLemmas.{IsPlan-filter}
use Rattle.cns_allocate.proofs.WaitingLemmas.{waits_first}
use Rattle.cns_allocate.proofs.waiting.Waiting.turn.Goals as goal

pub returns : goal.returns
returns c =
    let at = c.self.inside in
    let first = read_copied at.plan.now at.first c.get.result c.get.ensures.lookup in
    c.turn_among.ensures c.args.self.now c.args.member (subst IsPlan c.self.view_is (IsPlan-filter (is_placed at.places.now) at.plan.now c.self.invariant.lawful))
    (first ∙ waits_first at.plan.now at.places.now at.first c.self.invariant ∙ ap (λ (l : List Planned). slice_get l 0) c.self.view_is) c.planned_as.ensures

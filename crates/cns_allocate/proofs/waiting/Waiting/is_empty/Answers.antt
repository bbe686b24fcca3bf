use Rattle.std.proofs.Common.{◌∙◌, sym}
use Rattle.std.proofs.lemmas.Bool.{eq-eqb, eqb-true}
use Rattle.cns_allocate.proofs.WaitingLemmas.{waits_none, waits_some}
use Rattle.cns_allocate.proofs.waiting.Waiting.is_empty.Goals as goal

pub returns : goal.returns
returns c =
    let at = c.self.inside in (
      λ e. sym c.self.view_is ∙ waits_none at.plan.now at.places.now at.first c.self.invariant (eqb-true at.first _ e),
      λ e. eq-eqb at.first _ (waits_some at.plan.now at.places.now at.first c.self.invariant (c.self.view_is ∙ e)),
    )

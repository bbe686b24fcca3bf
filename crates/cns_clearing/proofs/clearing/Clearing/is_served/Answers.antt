use Rattle.std.proofs.Common.{◌≡◌, ◌∙◌, List, Some, ap, rules, subst}
use Rattle.cns_allocate.specs.Served.{IsServed}
use Rattle.cns_allocate.specs.declared.planned.Planned.{Planned}
use Rattle.cns_clearing.specs.Pools.{lot_of}
use Rattle.cns_clearing.specs.declared.lot.Lot.{Lot}
use Rattle.cns_clearing.proofs.clearing.Clearing.is_served.Goals as goal

-- the lot that was found is the one of the issue
pub returns-in-Some-clause-served : goal.returns-in-Some-clause-served
returns-in-Some-clause-served g c is_true lot found =
    let here : lot_of c.args.self.now.lots c.args.issue ≡ Some c.in-Some.lot.now = search rules in
    let same : c.in-Some.lot.now ≡ lot = cc in
    subst (λ (plan : List Planned). IsServed plan c.args.tickets.now c.args.sealed) (c.as_slice.ensures.value ∙ ap (λ (l : Lot). l.plan) same) (c.are_served.ensures.0 is_true)

use Rattle.std.proofs.Common.{◌≡◌, ◌-◌, refl, sym, rules}
use Rattle.cns_records.proofs.CallLemmas.{unchanged}
use Rattle.cns_clearing.specs.Answers.{pour_call}
use Rattle.cns_clearing.proofs.CallsLemmas.{pour_none, poured_by}
use Rattle.cns_clearing.proofs.LotLemmas.{lots_refilled}
use Rattle.cns_clearing.proofs.NodeLemmas.{node_lots}
use Rattle.cns_clearing.proofs.clearing.Clearing.lot_pour.Goals as goal

pub returns-in_err-up-clause-lots : goal.returns-in_err-up-clause-lots
unfolding pour_call
returns-in_err-up-clause-lots g c = rw c.in_err-up.ensures.down.1 (search rules, refl)

pub returns-in_default-clause-lots : goal.returns-in_default-clause-lots
returns-in_default-clause-lots g c = unchanged _ _ _ _ _ (pour_none _ _ _ _ (search rules) (search rules)) refl refl

pub invariant_of-self : goal.invariant_of-self
invariant_of-self g c =
    let count = rw (← c.self.view_is) at c.record_count-records.ensures in
    let avail = rw (← c.self.view_is) at c.avail-poured.ensures in
    node_lots _ _ _ c.self.invariant (rw (c.refill.ensures, count, avail) (lots_refilled _ _ c.args.issue c.self.invariant.lots))

pub returns : goal.returns
returns g c =
    let count = rw (← c.self.view_is) at c.record_count-records.ensures in
    let avail = rw (← c.self.view_is) at c.avail-poured.ensures in
    let found = rw (← c.self.view_is) at c.in-Some.ensures in
    let up = rw (← c.self.view_is) at c.in_ok-up.ensures.up in
    let shares : c.saturating_sub.result ≡ c.avail-poured.result - c.in-Some.lot.now.poured = search rules in
    let left = poured_by _ _ c.args.issue _ _ _ c.in-Some.lot.now c.self.invariant.log.allowed c.self.invariant.fits c.self.invariant.lots up (sym found) count avail shares c.refill.ensures in
    rw (← c.self.view_is) (record { lots = left.1; log = refl; poured = left.0 })

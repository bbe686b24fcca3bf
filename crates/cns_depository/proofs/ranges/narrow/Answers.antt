use Rattle.std.proofs.Common.{◌≡◌, ◌-◌, ◌+◌, ◌≤◌, ◌^◌, ◌∷◌, ◌∙◌, Bool, true, ap, sym, subst, arith}
use Rattle.std.specs.Prelude.{◌&&◌}
use Rattle.cns_depository.specs.declared.account.Side.{Side}
use Rattle.cns_depository.specs.declared.account.Side.TheVariants.{At, Outside}
use Rattle.cns_depository.specs.declared.moved.Moved.{Moved}
use Rattle.cns_depository.specs.declared.movement.Transfer.{Transfer}
use Rattle.cns_depository.specs.Openings.{issue_sum, opening_shares}
use Rattle.std.specs.HashMap.{get}
use Rattle.cns_depository.specs.Ranges.{IsDemanded, range_by}
use Rattle.cns_depository.specs.Totals.{place_eq}
use Rattle.cns_depository.specs.Stock.{brought_to, moved_in, moved_out, taken_from, transfer_of}
use Rattle.cns_depository.proofs.RangeLemmas.{account_met, deposit_limit, issue_met, ranges_demanded, ranges_limited, taken_all}
use Rattle.cns_depository.proofs.ranges.narrow.Goals as goal

-- what both are is so of each
both_true : (a b c : Bool) → a ≡ (b && c) → b ≡ true → c ≡ true → a ≡ true
both_true a b c is one other = is ∙ rw (one, other) (λ i. true)

pub returns-in-At-clause-ranges : goal.returns-in-At-clause-ranges
returns-in-At-clause-ranges c = λ p sums ranges.
    let e = c.args.entry.now in
    let a = c.in-At.account in
    let t = c.transfer_of-transfer.result in
    let gives : t.giver ≡ At a = c.in-At.is in
    let from : (transfer_of e).giver ≡ At a = ap (λ (x : Transfer). x.giver) (sym c.transfer_of-transfer.ensures) ∙ gives in
    let of : (transfer_of e).issue ≡ t.issue = ap (λ (x : Transfer). x.issue) (sym c.transfer_of-transfer.ensures) in
    let given = c.moved_of-given.ensures in
    let need : c.saturating_sub-needed.result ≡ moved_out (e ∷ p) a t.issue - moved_in (e ∷ p) a t.issue =
    omega (
      arith,
      c.saturating_sub-needed.ensures,
      ap (λ (m : Moved). m.entered) given,
      ap (λ (m : Moved). m.left) given,
      sums.entered t.giver t.issue,
      sums.left t.giver t.issue,
      ap (λ (s : Side). brought_to (e ∷ p) s t.issue) gives,
      ap (λ (s : Side). taken_from (e ∷ p) s t.issue) gives,
    ) in
    let demanded : IsDemanded a t.issue c.saturating_sub-needed.result c.takes_all.result (λ k. range_by k (get place_eq c.args.ranges.now k)) (λ k. range_by k (get place_eq c.demand.new.ranges k)) =
    rw c.in-At.account-is at c.demand.ensures.demanded in
    ranges_demanded e p _ _ ranges a t.issue c.saturating_sub-needed.result c.takes_all.result demanded from of need
    (λ all openings are.
    let most = taken_all e p a openings (sym c.takes_all.ensures ∙ all) from are in
    let here = subst (λ i. opening_shares openings a i ≤ moved_out (e ∷ p) a i - moved_in (e ∷ p) a i) of most in
    omega (arith, need, here))

pub returns-in-At-clause-none : goal.returns-in-At-clause-none
returns-in-At-clause-none c = λ is p sums ranges openings are.
    let new = returns-in-At-clause-ranges c p sums ranges in
    let a = c.in-At.account in
    let t = c.transfer_of-transfer.result in
    let left = rw c.in-At.account-is at c.demand.ensures.met in
    let met = both_true c.demand.result _ _ left (account_met _ _ new openings are a t.issue) (issue_met _ _ new openings are t.issue) in
    absurd cc

pub returns-in-Outside-clause-ranges : goal.returns-in-Outside-clause-ranges
returns-in-Outside-clause-ranges c = λ p sums ranges.
    let e = c.args.entry.now in
    let t = c.transfer_of-transfer.result in
    let gives : t.giver ≡ Outside = c.in-Outside.is in
    let from : (transfer_of e).giver ≡ Outside = ap (λ (x : Transfer). x.giver) (sym c.transfer_of-transfer.ensures) ∙ gives in
    let of : (transfer_of e).issue ≡ t.issue = ap (λ (x : Transfer). x.issue) (sym c.transfer_of-transfer.ensures) in
    let given = c.moved_of-given.ensures in
    let most : c.saturating_sub.result ≡ (10 ^ 18 + brought_to (e ∷ p) Outside t.issue) - taken_from (e ∷ p) Outside t.issue =
    omega (
      arith,
      c.saturating_sub.ensures,
      c.saturating_add-most.ensures,
      c.from.ensures,
      ap (λ (m : Moved). m.entered) given,
      ap (λ (m : Moved). m.left) given,
      sums.entered t.giver t.issue,
      sums.left t.giver t.issue,
      sums.few,
      sums.entered_small Outside t.issue,
      ap (λ (s : Side). brought_to (e ∷ p) s t.issue) gives,
      ap (λ (s : Side). taken_from (e ∷ p) s t.issue) gives,
    ) in
    ranges_limited e p _ _ ranges t.issue c.saturating_sub.result c.limit.ensures.limited from
    (λ openings are.
    let limit = deposit_limit e p openings are from in
    let here = subst (λ i. issue_sum openings i ≤ (10 ^ 18 + brought_to (e ∷ p) Outside i) - taken_from (e ∷ p) Outside i) of limit in
    omega (arith, most, here))

pub returns-in-Outside-clause-none : goal.returns-in-Outside-clause-none
returns-in-Outside-clause-none c = λ is p sums ranges openings are.
    let new = returns-in-Outside-clause-ranges c p sums ranges in
    let met = c.limit.ensures.met ∙ issue_met _ _ new openings are c.transfer_of-transfer.result.issue in
    absurd cc

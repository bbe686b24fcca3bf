use Rattle.std.proofs.Common.{◌≡◌, ◌+◌, ◌-◌, arith, rules}
use Rattle.std.specs.HashMap.{get}
use Rattle.cns_ids.specs.Holding.{holding_eq}
use Rattle.cns_movements.specs.OpenShares.{open_in, shares_of}
use Rattle.cns_movements.specs.declared.order.MoveKind.{MoveKind}
use Rattle.cns_movements.proofs.OpenLemmas.{shares_taken}
use Rattle.cns_movements.proofs.open_shares.settle.Goals as goal

pub returns-clause-shares : goal.returns-clause-shares
returns-clause-shares c =
    let order = c.args.order.now in
    let was : (k : MoveKind) → shares_of k c.in-Some.shares.now ≡ open_in c.args.sums.now k order.member order.issue = λ k. search rules in
    let sum : c.of.result - c.from-asked.result + order.asked ≡ shares_of order.kind c.in-Some.shares.now = omega (arith, was order.kind, c.requires) in
    shares_taken order.kind order.member order.issue order.asked (c.of.result - c.from-asked.result) c.in-Some.shares.now c.with.result (get holding_eq c.args.sums.now)
    (get holding_eq (c.get_mut.follows.lender c.with.result)) ((c.get_mut.follows.holds c.with.result).3 (search rules)).0 was sum c.with.ensures

use Rattle.std.proofs.Common.{◌≡◌, ◌+◌, arith, rules}
use Rattle.std.specs.HashMap.{get}
use Rattle.std.specs.HashMap.Entry.{map_with_value}
use Rattle.cns_ids.specs.Holding.{holding_at, holding_eq}
use Rattle.cns_movements.specs.OpenShares.{shares_of}
use Rattle.cns_movements.proofs.OpenLemmas.{open_found, shares_added}
use Rattle.cns_movements.proofs.open_shares.ask.Goals as goal

pub returns-clause-shares : goal.returns-clause-shares
returns-clause-shares c =
    let new = c.args.new.now in
    let before = c.or_insert-shares.result.now in
    let w = c.with.result in
    let was = open_found (get holding_eq c.args.sums.now (holding_at new.issue new.member)) before _ c.or_insert-shares.ensures.value c.in-Ok.ensures.value in
    let sum : c.of.result + c.from.result ≡ shares_of new.kind before + new.asked = omega (arith, c.of.ensures, c.from.ensures, c.shares.ensures.value) in
    let adds =
    shares_added new.kind new.member new.issue new.asked (c.of.result + c.from.result) before w (get holding_eq c.args.sums.now) (get holding_eq (map_with_value c.in-Ok.entry w))
    (c.in-Ok.ensures.update.0 w).0 was sum c.with.ensures in
    λ k m i. search (rules, adds k m i)

use Rattle.std.proofs.Common.{◌≡◌, IfOk, map, rules}
use Rattle.std.proofs.lemmas.Result.{IfOk-weaker}
use Rattle.cns_allocate.specs.Grants.{grant_of}
use Rattle.cns_allocate.proofs.GrantLemmas.{sum-grants}
use Rattle.cns_allocate.proofs.grant.grants.Goals as goal

pub returns-clause-sum : goal.returns-clause-sum
returns-clause-sum c =
    let exact : IfOk c.collect.result (λ grants. grants.items ≡ map (grant_of c.args.poured) c.args.tickets.now) = search rules in
    IfOk-weaker c.collect.result _ _ (λ grants is tiles. rw is (sum-grants c.args.poured c.args.tickets.now tiles)) exact

use Rattle.std.proofs.Common.{◌≡◌, rules}
use borrow.Author.Tests.{tests}
use Rattle.cns_movements.specs.Order.{agrees_with}
use Rattle.cns_movements.proofs.AgreeLemmas.{agrees_with-holds, agrees_with-is}
use Rattle.cns_movements.proofs.order.Order.agrees_with.Goals as goal

pub returns-then-eq-5-clause-agrees : goal.returns-then-eq-5-clause-agrees
returns-then-eq-5-clause-agrees c =
    let test : c.cycles_agree.result ≡ agrees_with c.args.self.now c.args.other.now = search (rules, tests) in
    rw test (agrees_with-is _ _, agrees_with-holds _ _)

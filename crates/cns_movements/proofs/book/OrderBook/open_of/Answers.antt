use Rattle.std.proofs.Common.{arith}
use Rattle.cns_movements.specs.OpenShares.{open_in}
use Rattle.cns_movements.proofs.OpenLemmas.{open_most}
use Rattle.cns_movements.proofs.book.OrderBook.open_of.Goals as goal

pub returns-clause-small : goal.returns-clause-small
returns-clause-small c =
    let lawful = c.self.invariant.stored.lawful in
    let most = open_most (open_in c.self.inside.sums) _ lawful c.self.invariant.summed c.args.kind c.args.member c.args.issue in
    omega (arith, lawful.few, most, c.open_shares.ensures c.args.kind, c.of.ensures)

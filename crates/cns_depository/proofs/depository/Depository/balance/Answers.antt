use Rattle.std.proofs.Common.{◌≡◌, ◌+◌, ◌≤◌, subst}
use Rattle.cns_depository.specs.Node.{DepNode}
use Rattle.cns_depository.specs.Openings.{opening_shares}
use Rattle.cns_depository.specs.Stock.{balance_of, moved_in, moved_out}
use Rattle.cns_depository.proofs.BalanceLemmas.{moved_out_covered}
use Rattle.cns_depository.proofs.depository.Depository.balance.Goals as goal

pub returns-clause-balance : goal.returns-clause-balance
returns-clause-balance g c =
    subst (λ (v : DepNode). c.balance.result ≡ balance_of v.openings v.log.records c.args.account c.args.issue) c.self.view_is
    (c.balance.ensures c.self.inside.log.records c.self.invariant.totals)

pub returns-clause-covered : goal.returns-clause-covered
returns-clause-covered g c =
    subst (λ (v : DepNode). moved_out v.log.records c.args.account c.args.issue ≤ opening_shares v.openings c.args.account c.args.issue + moved_in v.log.records c.args.account c.args.issue) c.self.view_is
    (moved_out_covered c.self.inside.openings c.self.inside.log.records c.args.account c.args.issue c.self.invariant.lawful.allowed)

use Rattle.cns_depository.proofs.TotalLemmas.{balance_by}
use Rattle.cns_depository.proofs.stock.Stock.balance_from.Goals as goal

pub returns : goal.returns
returns c = λ openings p are opens small.
    balance_by c.args.self.now openings p c.args.account.now c.args.issue c.moved_of-moved.result c.args.opened c.balance.result are c.moved_of-moved.ensures opens small c.balance.ensures

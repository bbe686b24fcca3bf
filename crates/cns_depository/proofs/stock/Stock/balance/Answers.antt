use Rattle.cns_depository.proofs.stock.Stock.balance.Goals as goal

pub returns : goal.returns
returns c = λ p are. c.balance_from.ensures c.args.openings.now p are c.shares-opened.ensures.shares c.shares-opened.ensures.small

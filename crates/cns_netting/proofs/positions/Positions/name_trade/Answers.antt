use Rattle.cns_ids.specs.Holding.{holding_at}
use Rattle.cns_netting.proofs.AddLemmas.{still_named}
use Rattle.cns_netting.proofs.positions.Positions.name_trade.Goals as goal

pub returns-clause-named : goal.returns-clause-named
returns-clause-named c = (still_named c.name-2.ensures.adds (holding_at c.args.trade.now.issue c.args.trade.now.buyer) c.name.ensures.named, c.name-2.ensures.named)

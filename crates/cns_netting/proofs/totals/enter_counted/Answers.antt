use Rattle.cns_netting.proofs.TotalLemmas.{can_count, totals_added}
use Rattle.cns_netting.proofs.totals.enter_counted.Goals as goal

pub recount-requires : goal.recount-requires
recount-requires c = record {
  room = c.requires.issue_room;
  count = can_count c.args.member c.args.issue c.args.credit c.args.debit c.enter-was.result c.with-is.result c.number-number.ensures.range c.enter-was.ensures.was c.with-is.ensures c.requires.totals c.requires.near;
}

pub returns-clause-totals : goal.returns-clause-totals
returns-clause-totals c =
    totals_added c.args.member c.args.issue c.args.credit c.args.debit c.enter-was.result c.with-is.result c.number-number.ensures.range c.enter-was.ensures.was c.with-is.ensures c.requires.totals
    c.enter-was.ensures.adds c.recount.ensures

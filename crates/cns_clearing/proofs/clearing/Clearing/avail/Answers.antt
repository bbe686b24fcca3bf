use Rattle.std.proofs.Common.{arith}
use Rattle.cns_ids.proofs.ListLemmas.{some_within}
use Rattle.cns_clearing.proofs.TotalLemmas.{avail_most}
use Rattle.cns_clearing.proofs.clearing.Clearing.avail.Goals as goal

pub overflow_cast-avail : goal.overflow_cast-avail
overflow_cast-avail g c =
    let is = rw c.books.ensures.books at c.avail.ensures in
    omega (arith, is, avail_most c.args.self.now.log.records c.args.issue c.books.ensures.lawful c.books.ensures.fits)

pub unreachable-requires : goal.unreachable-requires
unreachable-requires g c =
    let is = rw c.books.ensures.books at c.avail.ensures in
    let few = avail_most c.args.self.now.log.records c.args.issue c.books.ensures.lawful c.books.ensures.fits in
    some_within c.avail.result 1000000000000000000 _ _ (omega (arith, is, few)) c.new.ensures c.in_default.is

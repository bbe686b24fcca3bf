use Rattle.std.proofs.Common.{arith}
use Rattle.cns_clearing.proofs.PouredLemmas.{pool_whole}
use Rattle.cns_clearing.proofs.clearing.Clearing.going_out.Goals as goal

pub returns-clause-whole : goal.returns-clause-whole
returns-clause-whole g c =
    let is = rw (c.pooled.ensures, c.books.ensures.books) at c.going_out.ensures in
    omega (arith, is, pool_whole c.args.self.now.log.records c.args.self.now.lots c.args.issue c.books.ensures.lawful c.books.ensures.lots)

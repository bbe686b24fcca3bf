use Rattle.cns_clearing.proofs.PouredLemmas.{free_most}
use Rattle.cns_clearing.proofs.clearing.Clearing.free.Goals as goal

pub returns-clause-small : goal.returns-clause-small
returns-clause-small g c =
    free_most c.args.self.now.log.records c.args.self.now.lots c.args.issue c.free_of.result c.books.ensures.lawful c.books.ensures.fits c.lots.ensures.lawful
    (rw (c.pooled.ensures, c.books.ensures.books, c.lots.ensures.lots) at c.free_of.ensures)

use Rattle.cns_clearing.proofs.BalanceLemmas.{balanced}
use Rattle.cns_clearing.proofs.PositionLemmas.{due_in_is}
use Rattle.cns_clearing.proofs.PouredLemmas.{pool_whole}
use Rattle.cns_clearing.proofs.clearing.Clearing.book.Goals as goal

pub returns-clause-due : goal.returns-clause-due
returns-clause-due g c = rw (c.book.ensures, c.books.ensures.books) (due_in_is c.args.self.now.log.records)

pub returns-clause-balanced : goal.returns-clause-balanced
returns-clause-balanced g c = λ issue. balanced c.args.self.now.log.records issue c.books.ensures.lawful c.books.ensures.fits

pub returns-clause-whole : goal.returns-clause-whole
returns-clause-whole g c = λ issue. pool_whole c.args.self.now.log.records c.args.self.now.lots issue c.books.ensures.lawful c.books.ensures.lots

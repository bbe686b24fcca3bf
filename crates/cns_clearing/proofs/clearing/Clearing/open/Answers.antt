use Rattle.cns_records.proofs.ClearLaws.{spelling_injective}
use Rattle.cns_clearing.proofs.clearing.Clearing.open.Goals as goal

pub open-requires-clause-comes : goal.open-requires-clause-comes
open-requires-clause-comes g c = record { books_are = c.new-books.ensures; lawful = tt; fits = tt }

pub open-requires-clause-payloads : goal.open-requires-clause-payloads
open-requires-clause-payloads g c = spelling_injective

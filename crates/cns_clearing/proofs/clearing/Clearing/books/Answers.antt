use Rattle.cns_clearing.proofs.NodeLemmas.{books_sound, node_books}
use Rattle.cns_clearing.proofs.clearing.Clearing.books.Goals as goal

pub returns-clause-sound : goal.returns-clause-sound
returns-clause-sound g c = books_sound _ _ (node_books _ _ c.self.invariant)

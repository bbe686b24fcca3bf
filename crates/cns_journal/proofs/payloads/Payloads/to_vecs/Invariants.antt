use Rattle.std.proofs.Common.{map, vec_items, drop}
use Rattle.cns_journal.proofs.PayloadLemmas.{AreRead}
use Rattle.cns_journal.proofs.payloads.Payloads.to_vecs.Given as goal

abbrev pub invariant-loop-length : goal.invariant-loop-length
invariant-loop-length l = AreRead (map vec_items l.list.items) (drop l.length-index l.length-items) l.rest l.self

use Rattle.std.proofs.KnownBytes.{prepend_known-nil}
use Rattle.cns_table.proofs.write.buffered.Goals as goal

pub returns-in-Ok-clause-same : goal.returns-in-Ok-clause-same
returns-in-Ok-clause-same g c = rw (c.in-Ok.ensures.capacity, c.in-Ok.ensures.empty, c.in-Ok.ensures.inner) (prepend_known-nil (g.R.Read.remaining c.args.reader))

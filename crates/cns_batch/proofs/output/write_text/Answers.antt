use Rattle.std.proofs.Common.{arith}
use Rattle.cns_batch.proofs.PrintLemmas.{write_more}
use Rattle.cns_batch.proofs.output.write_text.Goals as goal

pub loop-done-preserved : goal.loop-done-preserved
loop-done-preserved g c = (omega (arith, c.in-Ok.ensures.bound), write_more _ _ _ _ _ _ c.loop-done.invariant.1 (rw c.split_at.ensures.back at c.in-Ok.ensures.bytes))

use Rattle.std.proofs.Common.{◌++◌, append_assoc, subst}
use Rattle.std.proofs.lemmas.List.{take_all, take_more}
use Rattle.cns_tally.specs.Counts.{HasCounted}
use Rattle.cns_tally.proofs.lines.Lines.take.Goals as goal

pub loop-byte-preserved : goal.loop-byte-preserved
loop-byte-preserved c = λ text h.
    rw (take_more c.args.bytes.now c.loop-byte.byte-index 0 c.loop-byte-test.true, ← append_assoc) (c.take_byte.ensures _ (c.loop-byte.invariant text h))

pub returns : goal.returns
returns c = λ text h.
    subst (λ xs. HasCounted c.loop-byte.self (text ++ xs)) (take_all _ _ c.loop-byte-test.false) (c.loop-byte.invariant text h)

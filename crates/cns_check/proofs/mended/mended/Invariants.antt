use Rattle.std.proofs.Common.{◌≡◌, ◌++◌, length}
use Rattle.cns_check.specs.Mended.{mended as mended_of}
use Rattle.cns_check.proofs.mended.mended.Given as goal

abbrev pub invariant-loop-rest : goal.invariant-loop-rest
invariant-loop-rest l = l.out.items ++ mended_of l.rest ≡ mended_of l.fn.text

abbrev pub decreases-loop-rest : goal.decreases-loop-rest
decreases-loop-rest l = length l.rest

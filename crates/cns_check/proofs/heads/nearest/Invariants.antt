use Rattle.std.proofs.Common.{length}
use Rattle.cns_check.proofs.heads.nearest.Given as goal

abbrev pub decreases-loop-rest : goal.decreases-loop-rest
decreases-loop-rest l = length l.rest

use Rattle.std.proofs.Common.{length}
use Rattle.cnsd.proofs.cusip.check_lines.Given as goal

abbrev pub decreases-loop-line : goal.decreases-loop-line
decreases-loop-line g l = length l.rest

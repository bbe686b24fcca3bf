use Rattle.cns_depository.specs.RangesOf.{AreSomeRanges}
use Rattle.cns_audit.proofs.least.ranges_of_first.Given as goal

abbrev pub invariant-loop-payload : goal.invariant-loop-payload
invariant-loop-payload l = AreSomeRanges l.ranges

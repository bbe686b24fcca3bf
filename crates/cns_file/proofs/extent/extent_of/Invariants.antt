use Rattle.std.proofs.Common.{length}
use Rattle.cns_file.proofs.ExtentLemmas.{IsRest}
use Rattle.cns_file.proofs.extent.extent_of.Given as goal

abbrev pub invariant-records : goal.invariant-records
invariant-records l = IsRest l.file l.rest l.records

abbrev pub decreases-records : goal.decreases-records
decreases-records l = length l.rest

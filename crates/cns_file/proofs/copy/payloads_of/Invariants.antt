use Rattle.std.proofs.Common.{length, vec_items}
use Rattle.cns_file.proofs.ExtentLemmas.{AreRead}
use Rattle.cns_file.proofs.copy.payloads_of.Given as goal

abbrev pub invariant-records : goal.invariant-records
invariant-records l = AreRead vec_items l.file l.rest l.payloads.items

abbrev pub decreases-records : goal.decreases-records
decreases-records l = length l.rest

use Rattle.std.proofs.Common.{List}
use Rattle.cns_records.specs.declared.dep_record.DepRecord.{DepRecord}
use Rattle.cns_trades.specs.declared.opening.Opening.{Opening}
use Rattle.cns_depository.specs.Ranges.{AreOpeningsOf}
use Rattle.cns_depository.specs.RangesOf.{AreSomeRanges}
use Rattle.cns_file.specs.Records.{payloads_left}
use Rattle.cns_audit.specs.Least.{HasRecords}
use Rattle.cns_audit.proofs.LeastLemmas.{IsTaken}
use Rattle.cns_audit.proofs.least.ranges_or_bad.Given as goal

abbrev pub invariant-loop-payload : goal.invariant-loop-payload
invariant-loop-payload l = record {
  some : AreSomeRanges l.ranges;
  taken : (p : List DepRecord) (openings : List Opening) → HasRecords l.file p → AreOpeningsOf openings p → IsTaken p l.ranges (payloads_left l.payload-iterator);
}

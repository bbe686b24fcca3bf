use Rattle.std.proofs.Common.{List, ◌++◌, take}
use Rattle.cns_check.specs.Findings.{in_row}
use Rattle.cns_check.specs.Kept.{IsOf}
use Rattle.cns_check.specs.declared.finding.Finding.{Finding}
use Rattle.cns_check.proofs.rows.add_faults.Given as goal

abbrev pub invariant-loop-fault : goal.invariant-loop-fault
invariant-loop-fault l = (before : List Finding) → IsOf l.fn.found before → IsOf l.found (before ++ in_row l.table l.place.row (take l.fault-index l.faults))

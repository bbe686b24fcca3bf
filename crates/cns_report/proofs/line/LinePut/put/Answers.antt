use Rattle.std.proofs.Common.{rules}
use Rattle.cns_report.specs.Lines.{bytes_of_line}
use Rattle.cns_report.proofs.line.LinePut.put.Goals as goal

pub returns-in-OpeningRowFault-clause-begun : goal.returns-in-OpeningRowFault-clause-begun
unfolding bytes_of_line
returns-in-OpeningRowFault-clause-begun c = rw c.in-OpeningRowFault.is (search rules)

pub returns-in-OpeningRefused-clause-begun : goal.returns-in-OpeningRefused-clause-begun
unfolding bytes_of_line
returns-in-OpeningRefused-clause-begun c = rw (c.in-OpeningRefused.is, ← c.opening_fault_name-name.ensures) c.put-in-OpeningRefused.ensures.begun

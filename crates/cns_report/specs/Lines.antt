-- The lines that tell of no event (this project's own format). Each ends with LF.
use Rattle.std.specs.Prelude.{ℕ, List, ◌++◌, codes}
use Rattle.std.specs.Fmt.{decimal}
use Rattle.cns_report.specs.Faults.{opening_fault_text, row_fault_text}
use Rattle.cns_report.specs.declared.line.Line.{Line}
use Rattle.cns_report.specs.declared.line.Line.TheVariants as line

unfoldable pub bytes_of_line : Line → List ℕ
-- row N fault ..
bytes_of_line (line.RowFault row fault) = codes "row " ++ decimal row ++ codes " fault " ++ row_fault_text fault ++ codes "\n"
-- opening row N fault ..
bytes_of_line (line.OpeningRowFault row fault) = codes "opening row " ++ decimal row ++ codes " fault " ++ row_fault_text fault ++ codes "\n"
-- opening row N fault NAME
bytes_of_line (line.OpeningRefused row fault) = codes "opening row " ++ decimal row ++ codes " fault " ++ opening_fault_text fault ++ codes "\n"
-- line N bad command
bytes_of_line (line.BadCommand number) = codes "line " ++ decimal number ++ codes " bad command\n"
-- fail ok
bytes_of_line line.FailurePlanned = codes "fail ok\n"
-- fail refused NotPlanned
bytes_of_line line.FailureNotPlanned = codes "fail refused NotPlanned\n"

use Rattle.std.proofs.Common.{take}
use Rattle.std.specs.Prelude.{All}
use Rattle.cns_system.specs.Agreement.{IsOrdered}
use Rattle.cns_system.proofs.AgreementLemmas.{OfRecord}
use Rattle.cns_system.proofs.agreement.are_ordered.Given as goal

abbrev pub invariant-loop-record : goal.invariant-loop-record
invariant-loop-record l = All (OfRecord (IsOrdered l.orders.book.orders)) (take l.record-index l.records)

-- What a run of a script comes to, as a batch.
use Rattle.std.specs.Prelude.{Result, Ok, Err}
use Rattle.cns_input.specs.declared.fault.BatchFault.{BatchFault}
use Rattle.cns_input.specs.declared.fault.BatchFault.TheVariants as fault
use Rattle.cns_batch.specs.declared.fault.OutputFault.{OutputFault}
use Rattle.cns_batch.specs.declared.fault.OutputFault.TheVariants as output

-- the fault of a batch whose text is not told, or not written
abbrev pub fault_of_output : OutputFault → BatchFault
fault_of_output output.Memory = fault.Memory
fault_of_output output.Write = fault.Write

abbrev pub batch_result : Result (Unit {0}) OutputFault → Result (Unit {0}) BatchFault
batch_result (Ok _) = Ok tt
batch_result (Err e) = Err (fault_of_output e)

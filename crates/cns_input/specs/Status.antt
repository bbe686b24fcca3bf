-- The exit status of a fault: 2 for the input, 3 for the surroundings (this project's own rule).
use Rattle.std.specs.Prelude.{ℕ}
use Rattle.cns_input.specs.declared.fault.BatchFault.{BatchFault}
use Rattle.cns_input.specs.declared.fault.BatchFault.TheVariants as fault

abbrev pub status_of : BatchFault → ℕ
status_of fault.Read = 2
status_of fault.TooLong = 2
status_of fault.Sections = 2
status_of fault.Csv = 2
status_of fault.Journal = 3
status_of fault.Memory = 3
status_of fault.Write = 3

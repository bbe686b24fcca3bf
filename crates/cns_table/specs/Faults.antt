-- The faults of a table, by where they come from.
use Rattle.std.specs.Prelude.{ℕ}
use Rattle.cns_table.specs.declared.fault.TableFault.{TableFault}
use Rattle.cns_table.specs.declared.fault.TableFault.TheVariants as fault

-- those of reading
abbrev pub IsOfInput : TableFault → Type 0
IsOfInput fault.Read = Unit {0}
IsOfInput (fault.Line n) = ⊥
IsOfInput fault.Cut = ⊥
IsOfInput fault.Memory = Unit {0}
IsOfInput fault.Write = ⊥

-- those of writing
abbrev pub IsOfOutput : TableFault → Type 0
IsOfOutput fault.Read = ⊥
IsOfOutput (fault.Line n) = ⊥
IsOfOutput fault.Cut = ⊥
IsOfOutput fault.Memory = Unit {0}
IsOfOutput fault.Write = Unit {0}

-- those of the end of a text
abbrev pub IsOfEnd : TableFault → Type 0
IsOfEnd fault.Read = ⊥
IsOfEnd (fault.Line n) = ⊥
IsOfEnd fault.Cut = Unit {0}
IsOfEnd fault.Memory = Unit {0}
IsOfEnd fault.Write = Unit {0}

-- the exit status of a fault: 2 for the input, 3 for the surroundings (this project's own rule)
abbrev pub exit_status : TableFault → ℕ
exit_status fault.Read = 2
exit_status (fault.Line n) = 2
exit_status fault.Cut = 2
exit_status fault.Memory = 3
exit_status fault.Write = 3

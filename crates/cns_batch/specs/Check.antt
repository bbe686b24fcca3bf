-- What a check of one CUSIP writes (this project's own format).
use Rattle.std.specs.Prelude.{◌≡◌, ℕ, ◌≤◌, List, ◌++◌, length, take, codes, Option, Result, Ok, Err}
use Rattle.std.specs.Io.KnownBytes.{Appends}
use Rattle.cns_ids.specs.Cusip.{read_cusip}
use Rattle.cns_ids.specs.declared.cusip.CusipFault.{CusipFault}
use Rattle.cns_report.specs.Faults.{cusip_fault_text}
use Rattle.cns_input.specs.declared.fault.BatchFault.{BatchFault}
use Rattle.cns_input.specs.declared.fault.BatchFault.TheVariants as fault

-- ok, or the name of the fault, as the lines of faulty rows show it
abbrev pub answer_text : Result ℕ CusipFault → List ℕ
answer_text (Ok number) = codes "ok"
answer_text (Err e) = cusip_fault_text e

-- the line for a text: what reading it as a CUSIP answers
abbrev pub cusip_line : List ℕ → List ℕ
cusip_line text = answer_text (read_cusip text) ++ codes "\n"

-- what a fault of a check says of what was written of its line
abbrev pub EndsLine : BatchFault → List ℕ → Option (List ℕ) → Option (List ℕ) → Type 0
EndsLine fault.Memory line old new = new ≡ old
EndsLine fault.Write line old new = (k : ℕ) × (k ≤ length line) × Appends old new (take k line)
EndsLine fault.Read line old new = ⊥
EndsLine fault.TooLong line old new = ⊥
EndsLine fault.Sections line old new = ⊥
EndsLine fault.Csv line old new = ⊥
EndsLine fault.Journal line old new = ⊥

use Rattle.std.proofs.Common.{◌≡◌, ◌<◌, ◌≤◌, ◌+◌, ◌++◌, ℕ, List, length}
use Rattle.std.specs.Prelude.{map}
use Rattle.cns_input.specs.Sections.{raw_lines}
use Rattle.cns_check.specs.Findings.{bad_lines, commands_from}
use Rattle.cns_check.specs.Kept.{IsOf}
use Rattle.cns_check.specs.declared.finding.Finding.{Finding}
use Rattle.cns_check.specs.declared.finding.Finding.TheVariants as finding
use Rattle.cns_check.proofs.script.check_script.Given as goal

abbrev pub invariant-loop-rest : goal.invariant-loop-rest
invariant-loop-rest l = (numbers : List ℕ)
    × (numbers ++ bad_lines l.beside (commands_from l.number (raw_lines l.rest)) ≡ bad_lines 0 (commands_from 1 (raw_lines l.fn.script)))
    × ((before : List Finding) → IsOf l.fn.found before → IsOf l.found (before ++ map finding.Line numbers))
    × (0 < l.number)
    × (l.number + length l.rest ≤ length l.fn.script + 1)

abbrev pub decreases-loop-rest : goal.decreases-loop-rest
decreases-loop-rest l = length l.rest

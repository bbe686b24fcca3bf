use Rattle.std.proofs.Common.{◌≤◌, ◌-◌, length}
use Rattle.cns_input.specs.Sections.{IsPassed}
use Rattle.cns_input.proofs.sections.split_at_head.Given as goal

abbrev pub invariant-loop-place : goal.invariant-loop-place
invariant-loop-place l = (l.at ≤ length l.text) × IsPassed l.head l.text l.at

abbrev pub decreases-loop-place : goal.decreases-loop-place
decreases-loop-place l = length l.text - l.at

use Rattle.std.proofs.Common.{◌≤◌, ◌-◌, ℕ, List, length}
use Rattle.cns_input.specs.Sections.{BeginsWithBracket, IsPassed}
use Rattle.cns_input.proofs.sections.next_bracket.Given as goal

abbrev pub invariant-loop-place : goal.invariant-loop-place
invariant-loop-place l = (l.at ≤ length l.text) × ((head : List ℕ) → BeginsWithBracket head → IsPassed head l.text l.at)

abbrev pub decreases-loop-place : goal.decreases-loop-place
decreases-loop-place l = length l.text - l.at

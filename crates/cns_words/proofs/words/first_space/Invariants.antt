use Rattle.std.proofs.Common.{◌≡◌, drop}
use Rattle.std.specs.Prelude.{◌==◌}
use Rattle.std.specs.List.{position_from}
use Rattle.cns_words.proofs.words.first_space.Given as goal

abbrev pub invariant-loop-place : goal.invariant-loop-place
invariant-loop-place l = position_from (λ c. c == 32) l.place (drop l.place l.line) ≡ position_from (λ c. c == 32) 0 l.line

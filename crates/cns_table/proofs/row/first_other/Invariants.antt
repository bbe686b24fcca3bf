use Rattle.std.proofs.Common.{◌≡◌, drop}
use Rattle.std.specs.Prelude.{◌==◌, not}
use Rattle.std.specs.List.{position_from}
use Rattle.cns_table.proofs.row.first_other.Given as goal

abbrev pub invariant-loop-place : goal.invariant-loop-place
invariant-loop-place l = position_from (λ c. not (c == 32)) l.place (drop l.place l.text) ≡ position_from (λ c. not (c == 32)) 0 l.text

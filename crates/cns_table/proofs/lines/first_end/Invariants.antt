use Rattle.std.proofs.Common.{◌≡◌, drop}
use Rattle.cns_words.specs.Words.{is_lf}
use Rattle.std.specs.List.{position_from}
use Rattle.cns_table.proofs.lines.first_end.Given as goal

abbrev pub invariant-loop-place : goal.invariant-loop-place
invariant-loop-place l = position_from is_lf l.place (drop l.place l.text) ≡ position_from is_lf 0 l.text

use Rattle.std.proofs.Common.{◌≡◌, drop}
use Rattle.cns_trades.specs.Fields.{same_text}
use Rattle.cns_input.proofs.command.is_word.Given as goal

abbrev pub invariant-loop-place : goal.invariant-loop-place
invariant-loop-place l = same_text (drop l.place l.word) (drop l.place l.this) ≡ same_text l.word l.this

use Rattle.std.proofs.Common.{◌≡◌, map, string_bytes, take}
use Rattle.cns_command_line.proofs.values.owned.Given as goal

abbrev pub invariant-loop-text : goal.invariant-loop-text
invariant-loop-text l = map string_bytes l.all.items ≡ map (λ v. v.now) (take l.text-index l.texts)

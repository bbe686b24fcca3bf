use Rattle.std.proofs.Common.{List, ℕ, ◌++◌, take}
use Rattle.cns_tally.specs.Counts.{HasCounted}
use Rattle.cns_tally.proofs.lines.Lines.take.Given as goal

abbrev pub invariant-loop-byte : goal.invariant-loop-byte
invariant-loop-byte l = (text : List ℕ) → HasCounted l.fn.self text → HasCounted l.self (text ++ take l.byte-index l.bytes)

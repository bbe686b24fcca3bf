use Rattle.std.proofs.Common.{◌≡◌, ◌++◌, take}
use Rattle.cns_check.specs.Mended.{letters_of}
use Rattle.cns_check.proofs.mended.is_name.Given as goal

abbrev pub invariant-loop-byte : goal.invariant-loop-byte
invariant-loop-byte l = letters_of (take l.byte-index l.line) ++ l.rest ≡ l.name

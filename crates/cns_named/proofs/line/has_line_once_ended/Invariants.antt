use Rattle.std.proofs.Common.{◌≡◌, length}
use Rattle.cns_named.specs.Named.{ended, has_line as has_line_in}
use Rattle.cns_named.proofs.line.has_line_once_ended.Given as goal

abbrev pub invariant-loop-wanted : goal.invariant-loop-wanted
invariant-loop-wanted l = has_line_in l.wanted (ended l.rest) ≡ has_line_in l.wanted (ended l.fn.text)

abbrev pub decreases-loop-wanted : goal.decreases-loop-wanted
decreases-loop-wanted l = length l.rest

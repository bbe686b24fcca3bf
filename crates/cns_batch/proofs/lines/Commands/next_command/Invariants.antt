use Rattle.std.proofs.Common.{◌≡◌, length}
use Rattle.cns_batch.specs.Run.{commands_left}
use Rattle.cns_batch.proofs.lines.Commands.next_command.Given as goal

abbrev pub invariant-loop-line : goal.invariant-loop-line
invariant-loop-line l = commands_left l.self ≡ commands_left l.fn.self

abbrev pub decreases-loop-line : goal.decreases-loop-line
decreases-loop-line l = length l.self.rest.now

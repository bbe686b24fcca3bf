use Rattle.std.proofs.Common.{◌-◌, length}
use Rattle.cns_movements.specs.Book.{AreSettled}
use Rattle.cns_movements.proofs.book.settled_from.Given as goal

abbrev pub invariant-loop-count : goal.invariant-loop-count
invariant-loop-count l = AreSettled l.count l.moved

abbrev pub decreases-loop-count : goal.decreases-loop-count
decreases-loop-count l = length l.moved - l.count

use Rattle.std.proofs.Common.{◌≡◌, ◌++◌, length, map, take, drop}
use Rattle.cns_system.specs.Lot.{with_end}
use Rattle.cns_system.proofs.lots.end_each.Given as goal

abbrev pub invariant-loop-index : goal.invariant-loop-index
invariant-loop-index l = record { ended : l.lots.items ≡ map with_end (take l.index l.initial.lots.items) ++ drop l.index l.initial.lots.items; len : length l.lots.items ≡ length l.initial.lots.items }

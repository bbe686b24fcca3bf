use Rattle.std.proofs.Common.{◌≡◌}
use Rattle.cns_audit.proofs.depot.tell_changes.Given as goal

abbrev pub invariant-loop-change : goal.invariant-loop-change
invariant-loop-change g l = l.told.faults ≡ l.initial.told.faults

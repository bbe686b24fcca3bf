use Rattle.std.proofs.Common.{◌≡◌}
use Rattle.cns_audit.proofs.issues.tell_clearing.Given as goal

abbrev pub invariant-loop-issue : goal.invariant-loop-issue
invariant-loop-issue g l = l.told.faults ≡ l.initial.told.faults

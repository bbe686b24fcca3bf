use Rattle.std.proofs.Common.{◌≡◌}
use Rattle.cns_audit.proofs.depot.tell_balances.Given as goal

abbrev pub invariant-loop-row : goal.invariant-loop-row
invariant-loop-row g l = l.told.faults ≡ l.initial.told.faults

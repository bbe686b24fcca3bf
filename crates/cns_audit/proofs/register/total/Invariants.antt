use Rattle.std.proofs.Common.{◌≡◌, drop}
use Rattle.std.specs.Prelude.{◌+ℤ◌}
use Rattle.cns_audit.specs.Register.{total_of}
use Rattle.cns_audit.proofs.register.total.Given as goal

abbrev pub invariant-loop-amount : goal.invariant-loop-amount
invariant-loop-amount l = (l.sum +ℤ total_of (drop l.amount-index l.amounts)) ≡ total_of l.amounts

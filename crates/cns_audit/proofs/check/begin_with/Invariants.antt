use Rattle.std.proofs.Common.{◌≡◌, drop}
use Rattle.std.specs.List.{fold}
use Rattle.cns_depository.specs.Ranges.{standing, with_opening}
use Rattle.cns_audit.proofs.check.begin_with.Given as goal

abbrev pub invariant-loop-opening : goal.invariant-loop-opening
invariant-loop-opening l = fold with_opening l.openings (drop l.opening-index l.list) ≡ standing l.list

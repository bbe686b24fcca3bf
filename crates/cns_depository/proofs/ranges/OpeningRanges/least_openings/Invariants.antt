use Rattle.std.proofs.Common.{◌≡◌, ◌++◌}
use Rattle.std.specs.List.{filter_map}
use Rattle.cns_depository.specs.Ranges.{least_opening}
use Rattle.cns_depository.proofs.ranges.OpeningRanges.least_openings.Given as goal

abbrev pub invariant-loop-place : goal.invariant-loop-place
invariant-loop-place l = l.openings.items ++ filter_map least_opening l.place-iterator ≡ filter_map least_opening l.self.ranges.entries

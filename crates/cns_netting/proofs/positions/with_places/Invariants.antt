use Rattle.std.proofs.Common.{◌++◌, map, take}
use Rattle.std.specs.List.Sorted.{IsPermutation}
use Rattle.cns_netting.specs.Positions.{placed_at}
use Rattle.cns_netting.proofs.positions.with_places.Given as goal

abbrev pub invariant-loop-one : goal.invariant-loop-one
invariant-loop-one l = IsPermutation (l.order ++ map placed_at (take l.one-index l.placed)) (l.places.items ++ l.rest)

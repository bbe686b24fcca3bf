use Rattle.std.proofs.Common.{◌≡◌, ◌+◌, ◌≤◌, ◌++◌, ℕ, List, length, map, vec_capacity}
use Rattle.std.specs.List.Sorted.{IsPermutation}
use Rattle.cns_netting.specs.Positions.{placed_at, places_below}
use Rattle.cns_netting.proofs.positions.placed_from.Given as goal

abbrev pub invariant-loop-place : goal.invariant-loop-place
invariant-loop-place l = record {
  each : (order : List ℕ) → IsPermutation (places_below l.fn.first) order → IsPermutation (places_below l.place) (order ++ map placed_at l.list.items);
  len : length l.list.items + l.fn.first ≡ l.place;
  room : l.count ≤ l.fn.first + vec_capacity l.list;
}

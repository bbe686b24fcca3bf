use Rattle.std.proofs.Common.{◌≡◌, ◌++◌, take}
use Rattle.std.specs.List.{filter_map}
use Rattle.cns_netting.specs.Positions.{row_in_place}
use Rattle.cns_netting.proofs.rows.put_places.Given as goal

abbrev pub invariant-loop-place : goal.invariant-loop-place
invariant-loop-place l = l.rows.items ≡ l.initial.rows.items ++ filter_map (row_in_place l.issue l.all.entries) (take l.place-index l.places)

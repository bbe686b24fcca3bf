use Rattle.std.proofs.Common.{◌≡◌, ◌++◌, List}
use Rattle.std.specs.HashMap.{keys}
use Rattle.std.specs.List.{filter_map}
use Rattle.std.specs.Map.{keys_of}
use Rattle.cns_records.specs.declared.dep_record.DepRecord.{DepRecord}
use Rattle.cns_depository.specs.Places.{unopened_row}
use Rattle.cns_depository.specs.Totals.{IsStockOf}
use Rattle.cns_depository.proofs.balances.add_others.Given as goal

abbrev pub invariant-loop-place : goal.invariant-loop-place
invariant-loop-place l = (p : List DepRecord) → IsStockOf l.stock p
    → l.rows.items ++ filter_map (unopened_row l.openings p) (keys_of l.place-iterator) ≡ l.fn.rows.items ++ filter_map (unopened_row l.openings p) (keys l.stock.moved)

use Rattle.std.proofs.Common.{◌≡◌, ◌++◌, List, map, take}
use Rattle.std.specs.List.{filter_map, IsDistinct}
use Rattle.cns_records.specs.declared.dep_record.DepRecord.{DepRecord}
use Rattle.cns_depository.specs.Balances.{balance_row}
use Rattle.cns_depository.specs.Places.{opened_place}
use Rattle.cns_depository.specs.Totals.{IsStockOf, place_eq}
use Rattle.cns_depository.proofs.balances.add_openings.Given as goal

abbrev pub invariant-loop-opening : goal.invariant-loop-opening
invariant-loop-opening l = (p : List DepRecord) → IsStockOf l.stock p → IsDistinct place_eq (map opened_place l.openings)
    → l.rows.items ≡ l.fn.rows.items ++ filter_map (balance_row l.openings p) (map opened_place (take l.opening-index l.openings))

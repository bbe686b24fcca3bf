use Rattle.std.proofs.Common.{◌≡◌, drop}
use Rattle.std.specs.List.{fold}
use Rattle.cns_audit.specs.Rows.{take_row, openings_taken}
use Rattle.cns_audit.proofs.kept.held_openings.Given as goal

abbrev pub invariant-loop-row : goal.invariant-loop-row
invariant-loop-row l = record {
  same : l.taken.held ≡ l.taken.list.items;
  rows : fold take_row (l.taken.list.items, l.taken.fell_out) (drop l.row-index l.rows) ≡ openings_taken l.rows;
}

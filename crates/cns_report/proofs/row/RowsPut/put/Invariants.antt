use Rattle.std.proofs.Common.{◌≡◌, ◌++◌, ◌≤◌, drop}
use Rattle.std.specs.List.{flat_map}
use Rattle.cns_report.proofs.row.RowsPut.put.Given as goal

abbrev pub invariant-loop-row : goal.invariant-loop-row
invariant-loop-row g l = record {
  whole : l.draft.whole ≡ l.fn.draft.whole;
  begun : l.draft.begun ++ flat_map g.R.Put.text (drop l.row-index l.self.0.now) ≡ l.fn.draft.begun ++ flat_map g.R.Put.text l.self.0.now;
  room : l.fn.draft.room ≤ l.draft.room;
}

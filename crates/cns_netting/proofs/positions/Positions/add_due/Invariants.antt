use Rattle.std.proofs.Common.{◌≡◌, take}
use Rattle.cns_netting.specs.Positions.{Adds, brought_due, taken_due}
use Rattle.cns_netting.proofs.positions.Positions.add_due.Given as goal

abbrev pub invariant-loop-one : goal.invariant-loop-one
invariant-loop-one l = record {
  adds : Adds (brought_due l.change l.day (take l.one-index l.undue)) (taken_due l.change l.day (take l.one-index l.undue)) l.fn.self.entries l.self.entries;
  room : l.self.room ≡ l.fn.self.room;
}

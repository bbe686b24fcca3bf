use Rattle.std.proofs.Common.{◌≡◌, ◌+◌, ◌≤◌, take, length, vec_capacity}
use Rattle.cns_system.specs.Finish.{AreEntered}
use Rattle.cns_system.proofs.floor.Floor.draw_each.Given as goal

abbrev pub invariant-loop-ticket : goal.invariant-loop-ticket
invariant-loop-ticket g l = record {
  entered : AreEntered l.lot (take l.ticket-index l.tickets) l.told.items l.fn.self.system l.self.system;
  busy : l.self.busy ≡ l.fn.self.busy;
  len : length l.told.items ≡ l.ticket-index;
  room : length l.tickets + 2 ≤ vec_capacity l.told;
}

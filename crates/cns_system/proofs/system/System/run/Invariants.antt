use Rattle.std.proofs.Common.{◌≡◌, ◌≤◌, take, length, vec_capacity}
use Rattle.cns_system.specs.Accord.{IsInAccord}
use Rattle.cns_system.specs.Headline.{AreStrict, IsAgreed}
use Rattle.cns_system.specs.Run.{Run}
use Rattle.cns_system.proofs.system.System.run.Given as goal

abbrev pub invariant-loop-event : goal.invariant-loop-event
invariant-loop-event g l = record {
  run : Run (take l.event-index l.events) l.outcomes.items l.fn.self l.self;
  accord : IsInAccord l.self;
  agreed : IsAgreed l.self;
  strict : AreStrict l.fn.self → AreStrict l.self;
  len : length l.outcomes.items ≡ l.event-index;
  room : length l.events ≤ vec_capacity l.outcomes;
}

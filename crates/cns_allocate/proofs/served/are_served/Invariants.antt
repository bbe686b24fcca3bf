use Rattle.std.proofs.Common.{◌≤◌, ◌*◌, drop}
use Rattle.std.specs.Prelude.{◌↔◌}
use Rattle.cns_allocate.specs.Served.{IsServed}
use Rattle.cns_allocate.proofs.ServedLemmas.{MayClose}
use Rattle.cns_allocate.proofs.served.are_served.Given as goal

abbrev pub invariant-loop-ticket : goal.invariant-loop-ticket
invariant-loop-ticket l = record {
  left : IsServed l.plan l.tickets l.sealed ↔ MayClose l.waiting l.start (drop l.ticket-index l.tickets) l.sealed;
  small : l.start ≤ l.ticket-index * 18446744073709551615;
}

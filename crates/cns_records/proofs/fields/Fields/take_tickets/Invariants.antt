use Rattle.std.proofs.Common.{◌≡◌, ◌-◌, ◌≤◌}
use Rattle.std.specs.Prelude.{vec_len, vec_capacity}
use Rattle.cns_records.specs.Drawn.{tickets_at}
use Rattle.cns_records.proofs.DrawnLaws.{after}
use Rattle.cns_records.proofs.fields.Fields.take_tickets.Given as goal

abbrev pub invariant-loop : goal.invariant-loop
invariant-loop l = record {
  reads : tickets_at l.count l.initial.self ≡ after l.tickets.items (tickets_at (l.count - l.counter) l.self);
  len : vec_len l.tickets ≡ l.counter;
  room : l.count ≤ vec_capacity l.tickets;
}

use Rattle.std.proofs.Common.{◌≡◌, ◌-◌}
use Rattle.std.specs.Prelude.{is_ok}
use Rattle.cns_records.specs.Drawn.{tickets_read}
use Rattle.cns_records.proofs.DrawnLaws.{tickets_from}
use Rattle.cns_records.proofs.fields.Fields.are_tickets.Given as goal

abbrev pub invariant-loop : goal.invariant-loop
invariant-loop l = is_ok (tickets_read l.count l.self) ≡ is_ok (tickets_from l.low (l.count - l.counter) l.rest)

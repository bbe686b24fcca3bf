use Rattle.std.proofs.Common.{◌≡◌, ◌++◌, take}
use Rattle.std.specs.List.{flat_map}
use Rattle.cns_records.specs.Drawn.{ticket_bytes}
use Rattle.cns_records.proofs.fields.add_tickets.Given as goal

abbrev pub invariant-loop-ticket : goal.invariant-loop-ticket
invariant-loop-ticket l = l.bytes.items ≡ l.fn.bytes.items ++ flat_map ticket_bytes (take l.ticket-index l.tickets)

use Rattle.std.specs.List.{AllWithin}
use Rattle.cns_records.specs.Drawn.{IsTicketInRange}
use Rattle.cns_records.proofs.drawn.are_in_range.Given as goal

abbrev pub invariant-loop-ticket : goal.invariant-loop-ticket
invariant-loop-ticket l = AllWithin IsTicketInRange l.tickets 0 l.ticket-index

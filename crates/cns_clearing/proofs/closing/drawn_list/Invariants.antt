use Rattle.std.proofs.Common.{◌≡◌, map, take}
use Rattle.std.specs.Prelude.{All}
use Rattle.cns_records.specs.Drawn.{IsTicketInRange}
use Rattle.cns_clearing.specs.Answers.{recorded_ticket}
use Rattle.cns_clearing.proofs.closing.drawn_list.Given as goal

abbrev pub invariant-loop-ticket : goal.invariant-loop-ticket
invariant-loop-ticket l = record { list : l.list.items ≡ map recorded_ticket (take l.ticket-index l.tickets); ranges : All IsTicketInRange l.list.items }

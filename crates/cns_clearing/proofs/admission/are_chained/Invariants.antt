use Rattle.std.proofs.Common.{◌≡◌, ◌*◌, ◌≤◌, drop}
use Rattle.cns_clearing.specs.Closing.{is_chained}
use Rattle.cns_clearing.proofs.admission.are_chained.Given as goal

abbrev pub invariant-loop-ticket : goal.invariant-loop-ticket
invariant-loop-ticket l = record { left : is_chained l.end (drop l.ticket-index l.tickets) ≡ is_chained 0 l.tickets; small : l.end ≤ l.ticket-index * 18446744073709551615 }

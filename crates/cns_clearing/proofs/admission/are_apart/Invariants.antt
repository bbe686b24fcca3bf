use Rattle.std.proofs.Common.{◌≡◌, drop, false, get_or, length}
use Rattle.cns_clearing.specs.Closing.{is_apart}
use Rattle.cns_clearing.proofs.ApartLemmas.{is_apart_from}
use Rattle.cns_clearing.proofs.admission.are_apart.Given as goal

abbrev pub invariant-loop-ticket : goal.invariant-loop-ticket
invariant-loop-ticket l = record {
  left : is_apart_from (λ member. get_or l.seen member false) (drop l.ticket-index l.tickets) ≡ is_apart l.tickets;
  size : length l.seen ≡ 10000;
}

use Rattle.std.proofs.Common.{◌<◌, ◌∙◌, false, length, length-set, refl, true, arith}
use Rattle.cns_ids.proofs.ListLemmas.{get_or-replicate_default}
use Rattle.cns_clearing.proofs.ApartLemmas.{apart_from_none, apart_step}
use Rattle.cns_clearing.proofs.admission.are_apart.Goals as goal

pub loop-ticket-init : goal.loop-ticket-init
loop-ticket-init c = record { left = apart_from_none _ (λ m. get_or-replicate_default 10000 m false) c.args.tickets.now; size = refl }

pub loop-ticket-preserved : goal.loop-ticket-preserved
loop-ticket-preserved c =
    let table = c.loop-ticket.seen in
    let member = c.from-member.result in
    let within : member < length table = omega (arith, c.from-member.ensures, c.number.ensures.value, c.number.ensures.range, c.loop-ticket.invariant.size) in
    record {
      left =
          apart_step c.args.tickets.now c.loop-ticket.ticket-index c.ticket-item.result table member c.loop-ticket-test.true c.ticket-item.is (c.from-member.ensures ∙ c.number.ensures.value) within
          c.if-seen-member.false c.loop-ticket.invariant.left;
      size = length-set table member true ∙ c.loop-ticket.invariant.size;
    }

use Rattle.cns_ids.proofs.ListLemmas.{some_within}
use Rattle.cns_clearing.proofs.DrawnLemmas.{drawn_few}
use Rattle.cns_clearing.proofs.closing.drawn_list.Goals as goal

pub unreachable-requires : goal.unreachable-requires
unreachable-requires c =
    let few = drawn_few c.args.tickets.now c.loop-ticket.list.items c.loop-ticket.ticket-index c.loop-ticket-test.false c.loop-ticket.invariant.list c.loop-ticket.invariant.ranges c.requires.once in
    some_within _ 9999 c.loop-ticket.list.items _ few c.from_vec.ensures c.in_default.is

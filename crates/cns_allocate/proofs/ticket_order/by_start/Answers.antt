use Rattle.std.proofs.Common.{rules}
use Rattle.std.proofs.lemmas.List.Sorted.{IsNonDecreasingBy-from_sort, answers_always}
use Rattle.cns_pool.specs.declared.ticket.Ticket.{Ticket}
use Rattle.cns_allocate.proofs.StartLemmas.{chained-by_start}
use Rattle.cns_allocate.proofs.ticket_order.by_start.Goals as goal

pub returns-clause-sorted : goal.returns-clause-sorted
returns-clause-sorted c =
    let start = λ (ticket : Ticket). ticket.start in
    rw c.from_vec.ensures (IsNonDecreasingBy-from_sort start _ (c.sort_unstable_by_key.ensures.sorted start (answers_always _ _ _ (λ f a r g h. search rules))))

pub returns-clause-chained : goal.returns-clause-chained
returns-clause-chained c tiles have =
    chained-by_start c.args.tickets c.from_vec.result (rw (c.from_vec.ensures, ← c.into_vec-list.ensures) c.sort_unstable_by_key.ensures.permutation)
    (returns-clause-sorted c) tiles have

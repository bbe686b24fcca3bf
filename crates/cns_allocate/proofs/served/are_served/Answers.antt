use Rattle.std.proofs.Common.{◌+◌, List, drop, arith, sym, ◌∙◌}
use Rattle.std.proofs.lemmas.Bool.{false≢true, iff_false}
use Rattle.std.proofs.lemmas.List.{drop_all}
use Rattle.cns_ids.proofs.ListLemmas.{drop_read}
use Rattle.cns_pool.specs.declared.ticket.Ticket.{Ticket}
use Rattle.cns_allocate.proofs.ServedLemmas.{close-first, served-turns, waiting-none}
use Rattle.cns_allocate.proofs.served.are_served.Goals as goal

pub loop-ticket-init : goal.loop-ticket-init
loop-ticket-init c = record { left = rw c.of-waiting.ensures (served-turns c.args.plan.now c.args.tickets.now c.args.sealed c.requires.plan); small = omega arith }

pub returns-then-not-is_in_turn : goal.returns-then-not-is_in_turn
returns-then-not-is_in_turn c =
    let tickets : List Ticket = c.args.tickets.now in
    let l = c.loop-ticket in
    let left = rw (drop_read tickets l.ticket-index c.ticket-item.result c.loop-ticket-test.true c.ticket-item.is) at l.invariant.left in
    let first = close-first l.waiting l.start c.ticket-item.result (drop (l.ticket-index + 1) tickets) c.args.sealed in
    (λ e. absurd (false≢true e), λ s. let turn = first.0 (left.0 s) in absurd (iff_false c.is_in_turn.ensures c.if-not-is_in_turn.true (turn.0, turn.1)))

pub loop-ticket-preserved : goal.loop-ticket-preserved
loop-ticket-preserved c =
    let tickets : List Ticket = c.args.tickets.now in
    let l = c.loop-ticket in
    let left = rw (drop_read tickets l.ticket-index c.ticket-item.result c.loop-ticket-test.true c.ticket-item.is) at l.invariant.left in
    let first = close-first l.waiting l.start c.ticket-item.result (drop (l.ticket-index + 1) tickets) c.args.sealed in
    let turn = c.is_in_turn.ensures.0 c.if-not-is_in_turn.false in
    record { left = rw (c.serve.ensures, c.from-start.ensures) (λ s. (first.0 (left.0 s)).2, λ rest. left.1 (first.1 (turn.0, turn.1, rest))); small = omega arith }

pub returns-then-sealed : goal.returns-then-sealed
returns-then-sealed c =
    let left = rw (drop_all c.loop-ticket.ticket-index c.args.tickets.now c.loop-ticket-test.false) at c.loop-ticket.invariant.left in
    (λ e. left.1 (tt, λ open_lot. absurd (false≢true (sym open_lot ∙ c.if-sealed.true))), λ s. c.if-sealed.true)

pub returns-else-sealed : goal.returns-else-sealed
returns-else-sealed c =
    let left = rw (drop_all c.loop-ticket.ticket-index c.args.tickets.now c.loop-ticket-test.false) at c.loop-ticket.invariant.left in
    let all = waiting-none c.loop-ticket.waiting in
    (λ e. left.1 (tt, λ open_lot. all ∙ c.is_empty.ensures.0 e), λ s. c.is_empty.ensures.1 (sym all ∙ (left.0 s).1 c.if-sealed.false))

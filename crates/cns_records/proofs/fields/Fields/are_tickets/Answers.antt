use Rattle.std.proofs.Common.{◌-◌, ◌+◌, ◌≤◌, ◌<◌, sym, ◌∙◌, arith}
use Rattle.cns_records.proofs.DrawnLaws.{from_first, from_bad, from_low, from_more, from_all}
use Rattle.cns_records.proofs.fields.Fields.are_tickets.Goals as goal

pub loop-init : goal.loop-init
loop-init c = from_first c.args.count (c.args.count - 0) c.args.self.now c.new-rest.result (omega arith) (c.new-rest.ensures ∙ c.self.view_is)

pub returns-in_default : goal.returns-in_default
returns-in_default c =
    let l = c.loop in
    sym (l.invariant ∙ from_bad l.low (c.args.count - l.counter) (c.args.count - (l.counter + 1)) l.rest _ (omega arith) c.in_default.ensures)

pub returns-then-start-low : goal.returns-then-start-low
returns-then-start-low c =
    let l = c.loop in
    let below : c.in-Ok.ticket.start < l.low = omega (arith, c.count-start.ensures.value) in
    sym (l.invariant ∙ from_low l.low (c.args.count - l.counter) (c.args.count - (l.counter + 1)) l.rest c.in-Ok.ticket c.take_ticket.new.self (omega arith) c.in-Ok.ensures below)

pub loop-preserved : goal.loop-preserved
loop-preserved c =
    let l = c.loop in
    let up : l.low ≤ c.in-Ok.ticket.start = omega (arith, c.count-start.ensures.value) in
    rw c.count-start.ensures.value
    (l.invariant ∙ from_more l.low (c.args.count - l.counter) (c.args.count - (l.counter + 1)) l.rest c.in-Ok.ticket c.take_ticket.new.self (omega arith) c.in-Ok.ensures up)

pub returns : goal.returns
returns c =
    let l = c.loop in
    c.is_at_end.ensures ∙ sym (l.invariant ∙ from_all l.low (c.args.count - l.counter) l.rest (omega arith))

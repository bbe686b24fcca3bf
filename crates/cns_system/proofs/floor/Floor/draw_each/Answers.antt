use Rattle.std.proofs.Common.{◌∙◌, arith}
use Rattle.cns_system.proofs.FinishLemmas.{cut_off, not_entered, one_entered}
use Rattle.cns_system.proofs.floor.Floor.draw_each.Goals as goal

pub returns-in_err-draw-clause-err : goal.returns-in_err-draw-clause-err
returns-in_err-draw-clause-err g c =
    not_entered c.args.lot c.args.tickets.now c.loop-ticket.told.items c.args.self.now.system c.draw.new.self.system c.from_residual.result c.in_err-draw.field-0.0
    c.from_residual.ensures.0 c.from_residual.ensures.1
    (cut_off c.args.lot c.args.tickets.now c.loop-ticket.ticket-index c.ticket-item.result c.in_err-draw.field-0.0 c.loop-ticket.told.items c.args.self.now.system c.loop-ticket.self.system
    c.draw.new.self.system c.loop-ticket-test.true c.ticket-item.is c.loop-ticket.invariant.entered c.in_err-draw.ensures.err)

pub loop-ticket-preserved : goal.loop-ticket-preserved
loop-ticket-preserved g c = record {
  entered =
      rw c.push_reserved.ensures.items
      (one_entered c.args.lot c.args.tickets.now c.loop-ticket.ticket-index c.ticket-item.result c.loop-ticket.told.items c.args.self.now.system c.loop-ticket.self.system c.draw.new.self.system
      c.loop-ticket-test.true c.ticket-item.is c.loop-ticket.invariant.entered c.in_ok-draw.ensures.ok);
  busy = c.draw.ensures.busy ∙ c.loop-ticket.invariant.busy;
  len = omega (arith, c.push_reserved.ensures.len, c.loop-ticket.invariant.len);
  room = omega (arith, c.push_reserved.ensures.capacity, c.loop-ticket.invariant.room);
}

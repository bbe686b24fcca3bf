use Rattle.std.proofs.Common.{◌-◌, ◌+◌, ◌∙◌, ap, sym, true≢false, arith}
use Rattle.std.specs.Prelude.{is_ok}
use Rattle.cns_records.proofs.DrawnLaws.{after_none, after_more, after_bad, after_all}
use Rattle.cns_records.proofs.fields.Fields.take_tickets.Goals as goal

pub loop-init : goal.loop-init
loop-init c = record {
  reads = after_none c.in_ok-tickets.tickets.items c.args.count (c.args.count - 0) c.args.self.now c.in_ok-tickets.ensures.items (omega arith);
  len = c.in_ok-tickets.ensures.len;
  room = c.in_ok-tickets.ensures.capacity;
}

pub unreachable-requires : goal.unreachable-requires
unreachable-requires c =
    let l = c.loop in
    let refused = after_bad l.tickets.items (c.args.count - l.counter) (c.args.count - (l.counter + 1)) l.self _ (omega arith) c.in_default.ensures in
    absurd (true≢false (sym c.requires.there ∙ ap is_ok (l.invariant.reads ∙ refused)))

pub loop-preserved : goal.loop-preserved
loop-preserved c =
    let l = c.loop in
    let more = after_more l.tickets.items (c.args.count - l.counter) (c.args.count - (l.counter + 1)) l.self c.in-Ok.ticket c.take_ticket.new.self (omega arith) c.in-Ok.ensures in
    record {
      reads = rw c.push_reserved.ensures.items (l.invariant.reads ∙ more);
      len = omega arith;
      room = omega arith;
    }

pub returns-clause-reads : goal.returns-clause-reads
returns-clause-reads c = c.loop.invariant.reads ∙ after_all c.loop.tickets.items (c.args.count - c.loop.counter) c.loop.self (omega arith)

use Rattle.cns_system.proofs.OnePlanLemmas.{Unserved, cut_of_lot, entered_of_lot}
use Rattle.cns_system.proofs.floor.Floor.enter_sorted.Goals as goal

pub returns-in-Ok-clause-tickets : goal.returns-in-Ok-clause-tickets
returns-in-Ok-clause-tickets g c =
    let before : Unserved c.args.lot c.args.self.now.system = record { free = c.requires.unserved; planned = c.planned.ensures.planned; tied = c.planned.ensures.tied } in
    entered_of_lot c.args.lot c.args.tickets.now c.args.sealed c.draw_each-drawn.new.told.items c.end.ensures.told.0 c.end.new.told.items c.args.self.now.system
    c.draw_each-drawn.new.self.system c.end.new.self.system c.end.ensures.told.1 c.in-Ok.ensures.ok before c.end.ensures.told.2

pub returns-in-Err-clause-tickets : goal.returns-in-Err-clause-tickets
returns-in-Err-clause-tickets g c =
    let before : Unserved c.args.lot c.args.self.now.system = record { free = c.requires.unserved; planned = c.planned.ensures.planned; tied = c.planned.ensures.tied } in
    cut_of_lot c.args.lot c.args.tickets.now c.in-Err.refusal c.draw_each-drawn.new.told.items c.push_reserved.new.self.items c.args.self.now.system c.draw_each-drawn.new.self.system
    c.push_reserved.ensures.items c.in-Err.ensures.err before

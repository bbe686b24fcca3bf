use Rattle.cns_clearing.proofs.LotLemmas.{lots_new}
use Rattle.cns_clearing.proofs.NodeLemmas.{node_lots}
use Rattle.cns_clearing.proofs.clearing.Clearing.lot_open_with.Goals as goal

pub open-requires-clause-first : goal.open-requires-clause-first
open-requires-clause-first g c = rw c.in_ok-room.ensures.same (rw (← c.self.view_is) at c.requires.first)

pub invariant_of-self-2 : goal.invariant_of-self-2
invariant_of-self-2 g c =
    let count = rw (← c.self.view_is) at c.record_count-records.ensures in
    let avail = rw (← c.self.view_is) at c.avail-poured.ensures in
    let plan = rw (← c.self.view_is) at c.requires.plan in
    let none = rw (← c.self.view_is) at c.requires.first in
    node_lots _ _ _ c.self.invariant (rw (c.open.ensures, c.in_ok-room.ensures.same, count, avail, plan) (lots_new _ _ c.args.issue c.self.invariant.lots none))

pub returns-clause-ok : goal.returns-clause-ok
returns-clause-ok g c =
    let count = rw (← c.self.view_is) at c.record_count-records.ensures in
    let avail = rw (← c.self.view_is) at c.avail-poured.ensures in
    let plan = rw (← c.self.view_is) at c.requires.plan in
    rw (← c.self.view_is, c.open.ensures, c.in_ok-room.ensures.same, count, avail, plan)

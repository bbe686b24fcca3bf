use Rattle.std.proofs.Common.{◌∙◌}
use Rattle.cns_clearing.proofs.OpenLotLemmas.{lot_got, none_got}
use Rattle.cns_clearing.proofs.lot.Lots.get.Goals as goal

pub returns-in-Some : goal.returns-in-Some
returns-in-Some c =
    rw (← c.self.view_is) (c.as_ref.ensures.value ∙ lot_got c.self.inside.slots.items c.args.issue _ c.self.invariant.placed c.in-Some.place c.index.result.now c.in-Some.ensures c.index.ensures)

pub returns-in-None : goal.returns-in-None
returns-in-None c = rw (← c.self.view_is) (none_got c.self.inside.slots.items c.args.issue _ c.self.invariant.placed c.in-None.ensures)

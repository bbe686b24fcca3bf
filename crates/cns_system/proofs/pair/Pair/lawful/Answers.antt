use Rattle.std.proofs.Common.{subst}
use Rattle.cns_clearing.specs.Lots.{AreLots}
use Rattle.cns_clearing.specs.Node.{ClearNode}
use Rattle.cns_system.specs.Lots.{ArePlanned}
use Rattle.cns_system.specs.World.{World}
use Rattle.cns_system.proofs.TiedLemmas.{planned_from}
use Rattle.cns_system.proofs.pair.Pair.lawful.Goals as goal

pub returns-clause-planned : goal.returns-clause-planned
returns-clause-planned g c =
    let open_lots = subst (λ (n : ClearNode). AreLots n.log.records n.lots) c.node.ensures c.has_open_lots-open.ensures.lawful in
    subst (λ (w : World). ArePlanned w.clear.clear.log.records w.clear.lots) c.self.view_is
    (planned_from c.self.inside.clear.clear.log.records c.self.inside.clear.clear.lots c.self.inside.clear.lots c.book-lots.ensures.tied open_lots)

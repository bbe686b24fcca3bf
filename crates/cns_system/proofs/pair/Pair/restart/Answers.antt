use Rattle.cns_system.proofs.RestartComes.{clear_restarts, depot_restarts}
use Rattle.cns_system.proofs.pair.Pair.restart.Goals as goal

pub returns-in-Clear : goal.returns-in-Clear
returns-in-Clear g c =
    rw (c.in-Clear.is, ← c.self.view_is, c.of_restart.ensures) (clear_restarts c.restart.result _ c.restart.new.self.clear c.restart.new.self.lots c.restart.ensures.clear c.restart.ensures.lots)

pub returns-in-Depot : goal.returns-in-Depot
returns-in-Depot g c =
    rw (c.in-Depot.is, ← c.self.view_is, c.of_restart-in-Depot.ensures) (depot_restarts c.restart-in-Depot.result _ c.restart-in-Depot.new.self c.restart-in-Depot.ensures)

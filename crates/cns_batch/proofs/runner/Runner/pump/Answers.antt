use Rattle.cns_batch.specs.Commands.{all_pumped, pumped_after}
use Rattle.cns_batch.proofs.ActLemmas.{leaves_fault, leaving_runs, runs_followed, stops_followed}
use Rattle.cns_batch.proofs.runner.Runner.pump.Goals as goal

pub returns-in_err-shake_link : goal.returns-in_err-shake_link
returns-in_err-shake_link g c = leaves_fault c.from_residual.result _ c.from_residual.ensures.0 (stops_followed pumped_after c.in_err-shake_link.ensures)

pub returns : goal.returns
returns g c = runs_followed pumped_after _ _ c.in_ok-shake_link.ensures (leaving_runs _ all_pumped c.shake_link.new.supply c.pump_all.result _ _ c.pump_all.ensures)

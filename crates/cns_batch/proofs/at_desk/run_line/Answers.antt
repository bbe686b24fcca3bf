use Rattle.std.proofs.Common.{refl}
use Rattle.cns_batch.proofs.ActLemmas.{flushes, leaves_fault, runs_after}
use Rattle.cns_batch.proofs.at_desk.run_line.Goals as goal

pub returns-in_err-run_command : goal.returns-in_err-run_command
returns-in_err-run_command g c = leaves_fault c.from_residual.result _ c.from_residual.ensures.0 c.in_err-run_command.ensures

pub returns : goal.returns
returns g c = runs_after _ _ c.in_ok-run_command.ensures (flushes _ c.run_command.new.supply c.end_line.result _ _ c.end_line.ensures refl)

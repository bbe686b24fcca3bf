use Rattle.cns_batch.specs.Commands.{served_if_open, served_in_turn}
use Rattle.cns_batch.specs.Run.{run_beside}
use Rattle.cns_batch.proofs.ActLemmas.{leaves_fault, leaving_runs, runs_after, stops_followed}
use Rattle.cns_batch.proofs.RunLemmas.{beside_ran, beside_stops}
use Rattle.cns_batch.proofs.in_turn.beside.Goals as goal

pub returns-in_err-lot-clause-runs : goal.returns-in_err-lot-clause-runs
unfolding run_beside
returns-in_err-lot-clause-runs g c = leaves_fault c.from_residual.result _ c.from_residual.ensures.0 (stops_followed _ c.in_err-lot.ensures)

pub returns-in_err-run_next-clause-runs : goal.returns-in_err-run_next-clause-runs
returns-in_err-run_next-clause-runs g c =
    leaves_fault c.from_residual-in_err-run_next.result _ c.from_residual-in_err-run_next.ensures.0
    (beside_stops _ _ _ _ c.in_ok-lot.ensures (rw c.number_of.ensures at c.in_err-run_next.ensures.runs))

pub returns-clause-runs : goal.returns-clause-runs
returns-clause-runs g c =
    runs_after _ _ (beside_ran _ _ _ _ c.in_ok-lot.ensures (rw c.number_of.ensures at c.in_ok-run_next.ensures.runs))
    (leaving_runs _ (served_if_open served_in_turn c.in_ok-lot.lot) c.run_next.new.supply c.serve_if_open.result _ _ c.serve_if_open.ensures)

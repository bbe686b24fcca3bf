use Rattle.cns_batch.specs.Commands.{served_if_open, served_in_turn}
use Rattle.cns_batch.proofs.ActLemmas.{runs_fault, runs_followed, stops_followed}
use Rattle.cns_batch.proofs.in_turn.allocate.Goals as goal

pub returns-in_err-lot : goal.returns-in_err-lot
returns-in_err-lot g c = runs_fault c.from_residual.result c.from_residual.ensures.0 (stops_followed (served_if_open served_in_turn) c.in_err-lot.ensures)

pub returns : goal.returns
returns g c = runs_followed (served_if_open served_in_turn) _ _ c.in_ok-lot.ensures c.serve_if_open.ensures

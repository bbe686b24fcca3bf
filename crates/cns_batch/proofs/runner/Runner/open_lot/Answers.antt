use Rattle.cns_batch.specs.Commands.{opened}
use Rattle.cns_batch.proofs.ActLemmas.{followed_gives, runs_fault, stops_followed}
use Rattle.cns_batch.proofs.CommandLemmas.{after_open, not_opened}
use Rattle.cns_batch.proofs.runner.Runner.open_lot.Goals as goal

pub returns-in_err-lot : goal.returns-in_err-lot
unfolding opened
returns-in_err-lot g c = runs_fault c.from_residual.result c.from_residual.ensures.0 (stops_followed after_open c.in_err-lot.ensures)

pub returns-in_default : goal.returns-in_default
unfolding opened
returns-in_default g c = rw (not_opened c.in_ok-lot.field-0 c.in_default.not-LotOpened) at (followed_gives after_open c.in_ok-lot.ensures)

pub returns : goal.returns
unfolding opened
returns g c = followed_gives after_open (rw c.in-LotOpened.is at c.in_ok-lot.ensures)

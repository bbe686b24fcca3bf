use Rattle.cns_batch.specs.Commands.{delivered}
use Rattle.cns_batch.proofs.ActLemmas.{followed_gives, runs_fault, runs_followed, stops_followed}
use Rattle.cns_batch.proofs.CommandLemmas.{after_reply, no_reply}
use Rattle.cns_batch.proofs.runner.Runner.deliver.Goals as goal

pub returns-in_err-packet : goal.returns-in_err-packet
unfolding delivered
returns-in_err-packet g c = runs_fault c.from_residual.result c.from_residual.ensures.0 (stops_followed after_reply c.in_err-packet.ensures)

pub returns-in-Executed : goal.returns-in-Executed
unfolding delivered
returns-in-Executed g c = runs_followed after_reply _ _ (rw c.in-Executed.is at c.in_ok-packet.ensures) c.single.ensures

pub returns-in-ExecutedAgain : goal.returns-in-ExecutedAgain
unfolding delivered
returns-in-ExecutedAgain g c = runs_followed after_reply _ _ (rw c.in-ExecutedAgain.is at c.in_ok-packet.ensures) c.single-in-ExecutedAgain.ensures

pub returns : goal.returns
unfolding delivered
returns g c = rw (no_reply c.in_ok-packet.field-0 c.in_default.not-Executed c.in_default.not-ExecutedAgain) at (followed_gives after_reply c.in_ok-packet.ensures)

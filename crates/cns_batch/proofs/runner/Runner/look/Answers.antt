use Rattle.cns_batch.specs.Commands.{looked}
use Rattle.cns_batch.proofs.ActLemmas.{followed_gives, runs_fault, runs_followed, stops_followed}
use Rattle.cns_batch.proofs.CommandLemmas.{after_look, looks_further}
use Rattle.cns_batch.proofs.runner.Runner.look.Goals as goal

pub returns-in_err-event : goal.returns-in_err-event
unfolding looked
returns-in_err-event g c = runs_fault c.from_residual.result c.from_residual.ensures.0 (stops_followed (after_look c.args.lot) c.in_err-event.ensures)

pub returns-in-Refused : goal.returns-in-Refused
unfolding looked
returns-in-Refused g c = followed_gives (after_look c.args.lot) (rw c.in-Refused.is at c.in_ok-event.ensures)

pub returns : goal.returns
unfolding looked
returns g c = runs_followed (after_look c.args.lot) _ _ c.in_ok-event.ensures (rw (looks_further c.args.lot _ c.in_default.not-Refused) c.single.ensures)

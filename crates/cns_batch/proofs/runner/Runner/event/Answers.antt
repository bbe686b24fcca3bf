use Rattle.cns_batch.proofs.ActLemmas.{half_told_event, told_event}
use Rattle.cns_batch.proofs.runner.Runner.event.Goals as goal

pub returns-in-Ok : goal.returns-in-Ok
returns-in-Ok g c = told_event c.args.event c.step-outcome.result c.step-outcome.ensures (rw c.in-Ok.is at c.outcome.ensures).0

pub returns-in-Err : goal.returns-in-Err
returns-in-Err g c = half_told_event c.args.event c.step-outcome.result c.step-outcome.ensures (rw c.in-Err.is at c.outcome.ensures).0

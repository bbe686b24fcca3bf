use Rattle.cns_batch.specs.ByWorkers.{served_by_workers}
use Rattle.cns_batch.specs.Commands.{served_if_open}
use Rattle.cns_batch.proofs.ActLemmas.{followed_gives, runs_fault, runs_followed, stops_followed}
use Rattle.cns_batch.proofs.RunLemmas.{not_begun}
use Rattle.cns_batch.proofs.at_desk.allocate.Goals as goal

pub returns-in_err-begun : goal.returns-in_err-begun
returns-in_err-begun g c = runs_fault c.from_residual.result c.from_residual.ensures.0 (stops_followed (served_if_open served_by_workers) c.in_err-begun.ensures.runs)

pub returns-in_default : goal.returns-in_default
returns-in_default g c = followed_gives (served_if_open served_by_workers) (rw (not_begun c.in_ok-begun.field-0 c.in_default.not-Some) at c.in_ok-begun.ensures.runs)

pub returns : goal.returns
returns g c = runs_followed (served_if_open served_by_workers) _ _ (rw c.in-Some.is at c.in_ok-begun.ensures.runs) c.end-ended.ensures

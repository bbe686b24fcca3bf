use Rattle.cns_batch.proofs.ActLemmas.{continues_here}
use Rattle.cns_batch.proofs.runner.Runner.draw.Goals as goal

pub returns-in-None : goal.returns-in-None
returns-in-None g c = rw c.in-None.is continues_here

use Rattle.cns_batch.proofs.ActLemmas.{continues_here}
use Rattle.cns_batch.proofs.CommandLemmas.{shaken_back, unshaken}
use Rattle.cns_batch.proofs.runner.Runner.shake_link.Goals as goal

pub returns-in-Some : goal.returns-in-Some
returns-in-Some g c = rw c.in-Some.is (shaken_back _ 16 c.args.supply.now _ _ c.shake.result _ _ c.shake.ensures)

pub returns-in-None : goal.returns-in-None
returns-in-None g c = rw (unshaken c.args.supply.now c.in-None.is) continues_here

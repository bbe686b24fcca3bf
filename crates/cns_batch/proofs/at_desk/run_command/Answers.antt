use Rattle.cns_batch.specs.ByWorkers.{served_by_workers}
use Rattle.cns_batch.proofs.ActLemmas.{leaving_runs}
use Rattle.cns_batch.proofs.RunLemmas.{plain_is}
use Rattle.cns_batch.proofs.at_desk.run_command.Goals as goal

pub returns-in-Allocate : goal.returns-in-Allocate
returns-in-Allocate g c = rw c.in-Allocate.is (leaving_runs _ _ _ c.allocate.result _ _ c.allocate.ensures)

pub returns-in_default : goal.returns-in_default
returns-in_default g c = rw (plain_is served_by_workers c.args.busy c.args.number c.args.command.now c.args.supply.now c.in_default.not-Allocate) c.run_plain.ensures

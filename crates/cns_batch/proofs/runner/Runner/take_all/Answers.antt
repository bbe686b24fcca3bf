use Rattle.cns_batch.proofs.CommandLemmas.{all_are}
use Rattle.cns_batch.proofs.runner.Runner.take_all.Goals as goal

pub returns : goal.returns
returns g c = rw (c.len-left.ensures, all_are c.args.supply.now) at c.take.ensures

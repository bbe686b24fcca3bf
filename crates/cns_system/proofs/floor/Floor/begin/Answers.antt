use Rattle.cns_system.proofs.BeginLemmas.{begin_goes}
use Rattle.cns_system.proofs.floor.Floor.begin.Goals as goal

pub returns-clause-strict : goal.returns-clause-strict
returns-clause-strict g c = (begin_goes c.args.issue c.begin_lot-begun.result c.args.self.now c.begin_lot-begun.new.self c.begin_lot-begun.ensures.ok c.begin_lot-begun.ensures.err).strict

pub returns-clause-numbers : goal.returns-clause-numbers
returns-clause-numbers g c = (begin_goes c.args.issue c.begin_lot-begun.result c.args.self.now c.begin_lot-begun.new.self c.begin_lot-begun.ensures.ok c.begin_lot-begun.ensures.err).rises

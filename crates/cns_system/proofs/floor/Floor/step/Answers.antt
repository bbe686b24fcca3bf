use Rattle.cns_system.proofs.FloorLemmas.{floor_goes}
use Rattle.cns_system.proofs.floor.Floor.step.Goals as goal

pub returns-clause-strict : goal.returns-clause-strict
returns-clause-strict g c = (floor_goes c.args.event c.take-outcome.result c.args.self.now c.take-outcome.new.self c.take-outcome.ensures).strict

pub returns-clause-numbers : goal.returns-clause-numbers
returns-clause-numbers g c = (floor_goes c.args.event c.take-outcome.result c.args.self.now c.take-outcome.new.self c.take-outcome.ensures).rises

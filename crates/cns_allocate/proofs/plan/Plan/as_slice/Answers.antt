use Rattle.std.proofs.Common.{subst}
use Rattle.cns_allocate.specs.Plan.{IsServable}
use Rattle.cns_allocate.proofs.TurnLemmas.{IsPlan-servable}
use Rattle.cns_allocate.proofs.plan.Plan.as_slice.Goals as goal

pub returns-clause-servable : goal.returns-clause-servable
returns-clause-servable c = subst IsServable c.self.view_is (IsPlan-servable _ c.self.invariant)

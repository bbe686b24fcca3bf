use Rattle.std.proofs.Common.{refl}
use Rattle.cns_clearing.proofs.NodeLemmas.{node_planned}
use Rattle.cns_clearing.proofs.clearing.Clearing.plan.Goals as goal

pub invariant_of-self : goal.invariant_of-self
invariant_of-self g c = node_planned _ _ _ _ _ c.self.invariant (c.plan.ensures, refl)

use Rattle.std.proofs.Common.{ap}
use Rattle.std.specs.Prelude.{nat_eq}
use Rattle.std.specs.Map.{lookup}
use Rattle.std.specs.HashMap.{get}
use Rattle.cns_ids.specs.Holding.{holding_eq}
use Rattle.cns_depository.proofs.IndexLemmas.{index_none}
use Rattle.cns_depository.proofs.openings.Openings.new.Goals as goal

pub invariant_of-result : goal.invariant_of-result
invariant_of-result c =
    rw c.new.ensures.items (index_none (get holding_eq c.new-2.result) (get nat_eq c.new-3.result) (λ k. ap (lookup (holding_eq k)) c.new-2.ensures.empty) (λ i. ap (lookup (nat_eq i)) c.new-3.ensures.empty))

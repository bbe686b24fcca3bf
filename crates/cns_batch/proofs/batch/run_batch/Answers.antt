use Rattle.std.proofs.Common.{refl}
use Rattle.cns_batch.proofs.TextLemmas.{batch_leaves}
use Rattle.cns_batch.proofs.batch.run_batch.Goals as goal

pub returns-clause-leaves : goal.returns-clause-leaves
returns-clause-leaves g c =
    batch_leaves _ c.run_shaken-result.result.result _ _ _ _ _ _ (rw c.new.ensures refl) (rw c.new-2.ensures refl) c.run_shaken-result.ensures.leaves

use Rattle.std.proofs.Common.{refl}
use Rattle.cns_batch.proofs.ActLemmas.{flushes, runs_after}
use Rattle.cns_batch.proofs.at_desk.run_first.Goals as goal

pub returns-in_ok-beside-in-Beside-clause-runs : goal.returns-in_ok-beside-in-Beside-clause-runs
returns-in_ok-beside-in-Beside-clause-runs g c =
    rw c.in-Beside.is (runs_after _ _ c.in_ok-beside-in-Beside.ensures.runs (flushes _ c.beside.new.supply c.end_line.result _ _ c.end_line.ensures refl))

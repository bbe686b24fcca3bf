use Rattle.std.proofs.Common.{refl, ◌∙◌}
use Rattle.cns_batch.specs.Runs.{Showed}
use Rattle.cns_batch.proofs.ActLemmas.{asks, runs_after, runs_fault, stops_here}
use Rattle.cns_batch.proofs.runner.Runner.pump_all.Goals as goal

pub returns-in_err-numbers : goal.returns-in_err-numbers
returns-in_err-numbers g c = runs_fault c.from_residual.result c.from_residual.ensures.0 (stops_here refl refl)

pub returns : goal.returns
returns g c =
    let (w, shows, numbers) = c.in_ok-numbers.ensures in
    runs_after c.pump_each.result _ (asks (Showed w) (w, refl, refl) refl shows) (rw (c.as_slice.ensures.value ∙ numbers) at c.pump_each.ensures)

use Rattle.std.proofs.Common.{refl}
use Rattle.cns_batch.specs.Commands.{report_text}
use Rattle.cns_batch.specs.Runs.{Showed}
use Rattle.cns_batch.proofs.ActLemmas.{asks, prints_runs, runs_after}
use Rattle.cns_batch.proofs.runner.Runner.report.Goals as goal

pub returns : goal.returns
returns g c =
    let (w, shows, prints) = c.report.ensures in
    runs_after c.report.result _ (asks (Showed w) (w, refl, refl) refl shows) (prints_runs _ (report_text w) c.report.result _ _ prints refl)

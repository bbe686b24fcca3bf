use Rattle.std.proofs.Common.{refl}
use Rattle.cns_report.specs.Lines.{bytes_of_line}
use Rattle.cns_batch.proofs.ActLemmas.{prints_runs}
use Rattle.cns_batch.proofs.runner.Runner.tell.Goals as goal

pub returns : goal.returns
returns g c = prints_runs _ (bytes_of_line c.args.line) c.tell.result _ _ c.tell.ensures.0 refl

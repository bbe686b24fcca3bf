use Rattle.std.proofs.Common.{[], ap}
use Rattle.cns_report.specs.Draft.{Written}
use Rattle.cns_batch.specs.Runs.{Output, output}
use Rattle.cns_batch.proofs.PrintLemmas.{flush_breaks, flush_writes, prints_fault}
use Rattle.cns_batch.proofs.page.Page.flush.Goals as goal

pub returns-in_err-write_text-clause-prints : goal.returns-in_err-write_text-clause-prints
returns-in_err-write_text-clause-prints g c =
    let p : Output = output c.args.self.now (g.W.Write.contents c.args.writer.now) in
    let (size, within, part) = c.in_err-write_text.ensures.err in
    prints_fault [] c.from_residual.result p _ c.from_residual.ensures.0 (flush_breaks p _ size (rw (← c.self.view_is, ← c.as_bytes.ensures) part))

pub returns-clause-prints : goal.returns-clause-prints
returns-clause-prints g c = flush_writes _ _ (rw (← c.self.view_is, ← c.as_bytes.ensures) c.in_ok-write_text.ensures.ok) (ap (λ (w : Written). w.text) c.clear.ensures)

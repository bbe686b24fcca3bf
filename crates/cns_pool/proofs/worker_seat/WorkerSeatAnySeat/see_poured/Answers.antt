use Rattle.std.proofs.Common.{arith, sym, ap, ◌∙◌}
use Rattle.cns_pool.specs.WorkerSeat.{WorkerState}
use Rattle.cns_pool.proofs.StepLemmas.{looks_poured}
use Rattle.cns_pool.proofs.worker_seat.WorkerSeatAnySeat.see_poured.Goals as goal

pub load-requires : goal.load-requires
load-requires c = (ap (λ (w : WorkerState). w.cell) c.self.view_is ∙ c.requires ∙ sym c.cell.view_is, omega (arith, c.cell.invariant.0), looks_poured _ _ _)

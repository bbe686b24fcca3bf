use Rattle.std.proofs.Common.{arith, refl, sym, ap, ◌∙◌}
use Rattle.cns_pool.specs.WorkerSeat.{WorkerState}
use Rattle.cns_pool.proofs.StepLemmas.{looks_asked}
use Rattle.cns_pool.proofs.SeatLemmas.{IsWorker_looked, ShowsAsked_told}
use Rattle.cns_pool.proofs.worker_seat.WorkerSeatAnySeat.see_asked.Goals as goal

pub load-requires : goal.load-requires
load-requires c = (ap (λ (w : WorkerState). w.cell) c.self.view_is ∙ c.requires ∙ sym c.cell.view_is, omega (arith, c.cell.invariant.0), looks_asked _ _ _)

pub invariant_of-self : goal.invariant_of-self
invariant_of-self c =
    let told = c.load.ensures.2 in
    IsWorker_looked c.self.inside.token.me c.load.new.seat.me _ _ c.load.result c.self.invariant told.0 told.1 _ c.asked_in.ensures _ c.load.ensures.0 refl refl refl

pub returns-clause-shows : goal.returns-clause-shows
returns-clause-shows c =
    let told = c.load.ensures.2 in
    ShowsAsked_told c.self.inside.token.me c.load.new.seat.me _ _ c.load.result c.self.invariant told.0 told.1 _ c.asked_in.ensures _ c.self.view_is

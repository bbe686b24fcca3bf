use Rattle.std.proofs.Common.{◌≡◌, ◌<◌, arith, refl, sym, ap, ◌∙◌}
use Rattle.cns_pool.specs.WorkerSeat.{WorkerState}
use Rattle.cns_pool.specs.CellWords.{Token}
use Rattle.cns_pool.proofs.StepLemmas.{reserves}
use Rattle.cns_pool.proofs.SeatLemmas.{IsWorker_sealed, MeetsSeal_told, IsWorker_drawn, DrawsTicket_told}
use Rattle.cns_pool.proofs.pool_cell.PoolCell.reserve.Goals as goal

pub fetch_add-requires : goal.fetch_add-requires
fetch_add-requires c =
    let budget : c.seat.inside.token.me.0.budget ≡ c.args.seat.now.budget = ap (λ (t : Token). t.0.budget) c.seat.invariant.view ∙ ap (λ (w : WorkerState). w.budget) c.seat.view_is in
    let calls : c.seat.inside.token.me.0.calls ≡ c.args.seat.now.calls = ap (λ (t : Token). t.0.calls) c.seat.invariant.view ∙ ap (λ (w : WorkerState). w.calls) c.seat.view_is in
    (ap (λ (w : WorkerState). w.cell) c.seat.view_is ∙ c.requires.cell ∙ sym c.self.view_is, omega (arith, c.self.invariant.0), reserves _ _ _ _ (omega (arith, budget, c.requires.budget)) (omega (arith, calls, c.requires.calls)))

pub invariant_of-seat : goal.invariant_of-seat
invariant_of-seat c =
    let call : 0 < c.seat.inside.calls = omega (arith, ap (λ (w : WorkerState). w.calls) c.seat.view_is, c.requires.calls) in
    let told = c.fetch_add.ensures.2 in
    IsWorker_sealed c.seat.inside.token.me c.fetch_add.new.seat.me _ _ c.fetch_add.result c.args.asked c.seat.invariant told.0 told.1 _ c.asked_in-found.ensures call c.if-found.true
    _ c.fetch_add.ensures.0 refl refl refl

pub returns-then-found : goal.returns-then-found
returns-then-found c =
    let call : 0 < c.seat.inside.calls = omega (arith, ap (λ (w : WorkerState). w.calls) c.seat.view_is, c.requires.calls) in
    let told = c.fetch_add.ensures.2 in
    MeetsSeal_told c.seat.inside.token.me c.fetch_add.new.seat.me _ _ c.fetch_add.result c.args.asked c.seat.invariant told.0 told.1 _ c.asked_in-found.ensures call c.if-found.true
    _ _ c.seat.view_is c.fetch_add.ensures.0 refl refl refl

pub invariant_of-seat-2 : goal.invariant_of-seat-2
invariant_of-seat-2 c =
    let call : 0 < c.seat.inside.calls = omega (arith, ap (λ (w : WorkerState). w.calls) c.seat.view_is, c.requires.calls) in
    let told = c.fetch_add.ensures.2 in
    IsWorker_drawn c.seat.inside.token.me c.fetch_add.new.seat.me _ _ c.fetch_add.result c.args.asked c.seat.invariant told.0 told.1 _ c.asked_in-found.ensures call c.if-found.false
    (record { member = c.args.member; start = c.asked_in-found.result.sum; asked = c.args.asked }) refl refl _ _ c.requires.some (omega (arith, c.draw.ensures.capacity)) c.fetch_add.ensures.0 c.draw.ensures.items refl refl

pub returns : goal.returns
returns c =
    let call : 0 < c.seat.inside.calls = omega (arith, ap (λ (w : WorkerState). w.calls) c.seat.view_is, c.requires.calls) in
    let told = c.fetch_add.ensures.2 in
    rw c.draw.ensures.answer (DrawsTicket_told c.seat.inside.token.me c.fetch_add.new.seat.me _ _ c.fetch_add.result c.args.asked c.seat.invariant told.0 told.1 _ c.asked_in-found.ensures call c.if-found.false
    (record { member = c.args.member; start = c.asked_in-found.result.sum; asked = c.args.asked }) refl refl _ _ _ c.seat.view_is refl c.fetch_add.ensures.0 c.draw.ensures.items refl refl)

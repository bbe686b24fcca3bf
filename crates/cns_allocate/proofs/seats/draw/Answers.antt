use Rattle.std.proofs.Common.{◌+◌, ◌-◌, ◌<◌, arith, sym, ap, ◌∙◌, subst, List}
use Rattle.cns_pool.specs.WorkerSeat.{WorkerState}
use Rattle.cns_allocate.specs.Serving.{HasDrawn, places_of}
use Rattle.cns_allocate.specs.declared.planned.Planned.{Planned}
use Rattle.cns_allocate.proofs.DealLemmas.{every-past, place-step}
use Rattle.cns_allocate.proofs.SeatLemmas.{seat-cons, seat-none, seat-sealed}
use Rattle.cns_allocate.proofs.seats.draw.Goals as goal

pub reserve-answer-requires-clause-budget : goal.reserve-answer-requires-clause-budget
reserve-answer-requires-clause-budget g c =
    let step = place-step c.args.workers c.loop-place.place c.args.group.now c.index-group-place.result c.requires.workers.0 c.loop-place-test.true c.index-group-place.is in
    omega (arith, step.shares, c.loop-place.invariant.budget)

pub reserve-answer-requires-clause-calls : goal.reserve-answer-requires-clause-calls
reserve-answer-requires-clause-calls g c =
    let step = place-step c.args.workers c.loop-place.place c.args.group.now c.index-group-place.result c.requires.workers.0 c.loop-place-test.true c.index-group-place.is in
    omega (arith, step.calls, c.loop-place.invariant.calls)

pub returns-in-Sealed : goal.returns-in-Sealed
returns-in-Sealed g c =
    let step = place-step c.args.workers c.loop-place.place c.args.group.now c.index-group-place.result c.requires.workers.0 c.loop-place-test.true c.index-group-place.is in
    let rest : List Planned = places_of c.args.workers (c.loop-place.place + c.args.workers) c.args.group.now in
    let some : 0 < c.loop-place.seat.calls = omega (arith, step.calls, c.loop-place.invariant.calls) in
    let sealed = seat-sealed c.loop-place.seat c.index-group-place.result rest c.reserve-answer.new.seat some c.in-Sealed.ensures in
    c.loop-place.invariant.goes_on c.reserve-answer.new.seat
    (subst (λ (l : List Planned). HasDrawn c.loop-place.seat l c.reserve-answer.new.seat) (sym step.places) sealed)

pub loop-place-preserved : goal.loop-place-preserved
loop-place-preserved g c =
    let draws = c.in_default.ensures in
    let step = place-step c.args.workers c.loop-place.place c.args.group.now c.index-group-place.result c.requires.workers.0 c.loop-place-test.true c.index-group-place.is in
    let some : 0 < c.loop-place.seat.calls = omega (arith, step.calls, c.loop-place.invariant.calls) in
    let rest : List Planned = places_of c.args.workers (c.loop-place.place + c.args.workers) c.args.group.now in
    record {
      cell = ap (λ (s : WorkerState). s.cell) draws.after ∙ c.loop-place.invariant.cell;
      goes_on =
          λ new then.
          c.loop-place.invariant.goes_on new
          (subst (λ (l : List Planned). HasDrawn c.loop-place.seat l new) (sym step.places)
          (seat-cons c.loop-place.seat c.index-group-place.result rest c.in_default.field-0 c.reserve-answer.new.seat new some draws then));
      budget = omega (arith, step.shares, c.loop-place.invariant.budget, draws.size, ap (λ (s : WorkerState). s.budget) draws.after);
      calls = omega (arith, step.calls, c.loop-place.invariant.calls, ap (λ (s : WorkerState). s.calls) draws.after);
    }

pub returns : goal.returns
returns g c =
    let past = every-past (c.args.workers - 1) c.loop-place.place c.args.group.now c.loop-place-test.false in
    c.loop-place.invariant.goes_on c.loop-place.seat
    (subst (λ (l : List Planned). HasDrawn c.loop-place.seat l c.loop-place.seat) (sym past) (seat-none c.loop-place.seat))

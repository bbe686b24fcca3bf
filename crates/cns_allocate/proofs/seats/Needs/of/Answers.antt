use Rattle.std.proofs.Common.{◌-◌, arith, length, ap}
use Rattle.cns_allocate.specs.Serving.{asked_in_plan}
use Rattle.cns_allocate.specs.declared.planned.Planned.{Planned}
use Rattle.cns_allocate.proofs.DealLemmas.{every-most, every-past, place-step}
use Rattle.cns_allocate.proofs.seats.Needs.of.Goals as goal

pub overflow_sub-left : goal.overflow_sub-left
overflow_sub-left c =
    let step = place-step c.args.workers c.loop-place.place c.args.group.now c.index-group-place.result c.requires.workers.0 c.loop-place-test.true c.index-group-place.is in
    omega (arith, step.shares, c.loop-place.invariant.shares, c.requires.budget, ap (λ (p : Planned). p.asked) c.index-group-place.is)

pub overflow_add-calls : goal.overflow_add-calls
overflow_add-calls c =
    let step = place-step c.args.workers c.loop-place.place c.args.group.now c.index-group-place.result c.requires.workers.0 c.loop-place-test.true c.index-group-place.is in
    omega (arith, step.calls, c.loop-place.invariant.calls, every-most (c.args.workers - 1) c.args.worker c.args.group.now)

pub loop-place-preserved : goal.loop-place-preserved
loop-place-preserved c =
    let step = place-step c.args.workers c.loop-place.place c.args.group.now c.index-group-place.result c.requires.workers.0 c.loop-place-test.true c.index-group-place.is in
    record {
      shares = omega (arith, step.shares, c.loop-place.invariant.shares, c.requires.budget, ap (λ (p : Planned). p.asked) c.index-group-place.is);
      calls = omega (arith, step.calls, c.loop-place.invariant.calls);
    }

pub returns-clause-shares : goal.returns-clause-shares
returns-clause-shares c =
    omega (
      arith,
      c.loop-place.invariant.shares,
      c.requires.budget,
      ap asked_in_plan (every-past (c.args.workers - 1) c.loop-place.place c.args.group.now c.loop-place-test.false),
    )

pub returns-clause-calls : goal.returns-clause-calls
returns-clause-calls c =
    omega (arith, c.loop-place.invariant.calls, ap length (every-past (c.args.workers - 1) c.loop-place.place c.args.group.now c.loop-place-test.false))

pub overflow_sub-result : goal.overflow_sub-result
overflow_sub-result c =
    omega (
      arith,
      c.loop-place.invariant.shares,
      c.requires.budget,
      ap asked_in_plan (every-past (c.args.workers - 1) c.loop-place.place c.args.group.now c.loop-place-test.false),
    )

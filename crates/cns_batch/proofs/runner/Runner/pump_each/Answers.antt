use Rattle.cns_batch.specs.Commands.{pumped}
use Rattle.cns_batch.proofs.ActLemmas.{continues_here, each_left, each_over, runs_fault, step_gives, step_stops}
use Rattle.cns_batch.proofs.runner.Runner.pump_each.Goals as goal

pub loop-number-init : goal.loop-number-init
loop-number-init g c = continues_here

pub returns-in_err-pump_one : goal.returns-in_err-pump_one
returns-in_err-pump_one g c =
    let left = each_left pumped c.args.numbers.now c.loop-number.number-index c.number-item.result c.loop-number-test.true c.number-item.is in
    runs_fault c.from_residual.result c.from_residual.ensures.0 (step_stops _ left c.loop-number.invariant c.in_err-pump_one.ensures)

pub loop-number-preserved : goal.loop-number-preserved
loop-number-preserved g c =
    let left = each_left pumped c.args.numbers.now c.loop-number.number-index c.number-item.result c.loop-number-test.true c.number-item.is in
    step_gives _ left c.loop-number.invariant c.in_ok-pump_one.ensures

pub returns : goal.returns
returns g c = rw (each_over pumped c.args.numbers.now c.loop-number.number-index c.loop-number-test.false) at c.loop-number.invariant

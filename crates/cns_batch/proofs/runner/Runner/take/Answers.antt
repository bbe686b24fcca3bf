use Rattle.std.proofs.Common.{arith, ◌≡◌, ◌-◌}
use Rattle.cns_batch.proofs.ActLemmas.{continues_here, leaves_fault, step_gives, step_stops}
use Rattle.cns_batch.proofs.CommandLemmas.{taken_all, taken_first, taken_none}
use Rattle.cns_batch.proofs.runner.Runner.take.Goals as goal

pub loop-turn-init : goal.loop-turn-init
loop-turn-init g c = let all : c.args.rows - 0 ≡ c.args.rows = omega arith in rw all continues_here

pub returns-in_default : goal.returns-in_default
returns-in_default g c =
    rw c.in_default.ensures.1 (rw (taken_none (c.args.rows - c.loop-turn._turn) c.loop-turn.supply c.in_default.ensures.0) at c.loop-turn.invariant)

pub returns-in_err-take_row : goal.returns-in_err-take_row
returns-in_err-take_row g c =
    let left = taken_first c.args.rows c.loop-turn._turn c.in-Some.row c.loop-turn.supply _ c.loop-turn-test.true c.in-Some.ensures in
    leaves_fault c.from_residual.result _ c.from_residual.ensures.0 (step_stops _ left c.loop-turn.invariant c.in_err-take_row.ensures)

pub loop-turn-preserved : goal.loop-turn-preserved
loop-turn-preserved g c =
    let left = taken_first c.args.rows c.loop-turn._turn c.in-Some.row c.loop-turn.supply _ c.loop-turn-test.true c.in-Some.ensures in
    step_gives _ left c.loop-turn.invariant c.in_ok-take_row.ensures

pub returns : goal.returns
returns g c = rw (taken_all c.args.rows c.loop-turn._turn c.loop-turn.supply c.loop-turn-test.false) at c.loop-turn.invariant

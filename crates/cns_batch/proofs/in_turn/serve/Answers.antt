use Rattle.cns_batch.proofs.ActLemmas.{continues_here, runs_after, runs_fault, step_gives, step_stops}
use Rattle.cns_batch.proofs.CommandLemmas.{no_ticket, served_left, served_over}
use Rattle.cns_batch.proofs.in_turn.serve.Goals as goal

pub loop-planned-init : goal.loop-planned-init
loop-planned-init g c = continues_here

pub returns-in_err-event : goal.returns-in_err-event
returns-in_err-event g c =
    let left = served_left c.args.lot.now.number c.as_slice-plan.result.now c.loop-planned.planned-index c.planned-item.result c.loop-planned-test.true c.planned-item.is in
    rw (← c.as_slice-plan.ensures.value) (runs_fault c.from_residual.result c.from_residual.ensures.0 (step_stops _ left c.loop-planned.invariant c.in_err-event.ensures))

pub returns-in-Refused : goal.returns-in-Refused
returns-in-Refused g c =
    let left = served_left c.args.lot.now.number c.as_slice-plan.result.now c.loop-planned.planned-index c.planned-item.result c.loop-planned-test.true c.planned-item.is in
    rw (← c.as_slice-plan.ensures.value) (runs_after _ _ (step_gives _ left c.loop-planned.invariant (rw c.in-Refused.is at c.in_ok-event.ensures)) c.close_sealed.ensures)

pub returns-in_default : goal.returns-in_default
returns-in_default g c =
    let left = served_left c.args.lot.now.number c.as_slice-plan.result.now c.loop-planned.planned-index c.planned-item.result c.loop-planned-test.true c.planned-item.is in
    rw (← c.as_slice-plan.ensures.value)
    (rw (no_ticket c.args.lot.now.number _ c.in_ok-event.field-0 c.in_default.not-Drawn c.in_default.not-Refused) at (step_gives _ left c.loop-planned.invariant c.in_ok-event.ensures))

pub loop-planned-preserved : goal.loop-planned-preserved
loop-planned-preserved g c =
    let left = served_left c.args.lot.now.number c.as_slice-plan.result.now c.loop-planned.planned-index c.planned-item.result c.loop-planned-test.true c.planned-item.is in
    step_gives _ left c.loop-planned.invariant (rw c.in-Drawn.is at c.in_ok-event.ensures)

pub returns : goal.returns
returns g c =
    rw (← c.as_slice-plan.ensures.value)
    (runs_after _ _ (rw (served_over c.args.lot.now.number c.as_slice-plan.result.now c.loop-planned.planned-index c.loop-planned-test.false) at c.loop-planned.invariant) c.single.ensures)

use Rattle.std.proofs.Common.{refl}
use Rattle.cns_batch.specs.ByWorkers.{served_by_workers}
use Rattle.cns_batch.specs.Run.{commands_left, ran_beside}
use Rattle.cns_batch.proofs.ActLemmas.{continues_here, flushes, leaves_fault, runs_after, step_gives, step_stops}
use Rattle.cns_batch.proofs.RunLemmas.{passed_over, script_first, script_over}
use Rattle.cns_batch.proofs.at_desk.run_script.Goals as goal

pub loop-number-init : goal.loop-number-init
loop-number-init g c = rw c.of-commands.ensures continues_here

pub returns-in_err-run_first-clause-runs : goal.returns-in_err-run_first-clause-runs
returns-in_err-run_first-clause-runs g c =
    let left = script_first served_by_workers (c.in-Some.number, c.in-Some.command) (commands_left c.loop-number.commands) _ c.loop-number.supply c.in-Some.ensures in
    leaves_fault c.from_residual.result _ c.from_residual.ensures.0 (step_stops _ left c.loop-number.invariant c.in_err-run_first.ensures.runs)

pub loop-number-preserved : goal.loop-number-preserved
loop-number-preserved g c =
    let left = script_first served_by_workers (c.in-Some.number, c.in-Some.command) (commands_left c.loop-number.commands) _ c.loop-number.supply c.in-Some.ensures in
    rw c.in_ok-run_first.ensures.passed (rw (passed_over served_by_workers (ran_beside c.in-Some.command)) at (step_gives _ left c.loop-number.invariant c.in_ok-run_first.ensures.runs))

pub returns-clause-runs : goal.returns-clause-runs
returns-clause-runs g c =
    let s = c.loop-number.supply in
    runs_after _ _ (rw (script_over served_by_workers (commands_left c.loop-number.commands) s c.in_default.ensures.0) at c.loop-number.invariant) (flushes _ s c.flush.result _ _ c.flush.ensures.prints refl)

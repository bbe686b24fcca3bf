use Rattle.std.proofs.Common.{arith, refl, ◌≡◌, ◌-◌}
use Rattle.cns_batch.specs.Commands.{served_in_turn}
use Rattle.cns_batch.specs.Run.{commands_left}
use Rattle.cns_batch.proofs.ActLemmas.{continues_here, leaves_fault, step_gives, step_stops}
use Rattle.cns_batch.proofs.RunLemmas.{all_ran, left_done, left_next, left_none, none_run, run_first_left}
use Rattle.cns_batch.proofs.in_turn.run_next.Goals as goal

pub loop-command-init : goal.loop-command-init
loop-command-init g c = let all : c.args.count - 0 ≡ c.args.count = omega arith in (refl, rw all continues_here)

pub returns-in_default-clause-runs : goal.returns-in_default-clause-runs
returns-in_default-clause-runs g c =
    rw (none_run served_in_turn c.args.busy (c.args.count - c.loop-command._command) (commands_left c.loop-command.commands) c.loop-command.supply c.in_default.ensures.0) at c.loop-command.invariant.1

pub returns-in_default-clause-passed : goal.returns-in_default-clause-passed
returns-in_default-clause-passed g c =
    left_none c.loop-command._command c.args.count (commands_left c.args.commands.now) (commands_left c.loop-command.commands) _ c.loop-command.auto._command-end c.loop-command.invariant.0 c.in_default.ensures.0 c.in_default.ensures.1

pub returns-in_err-run_line-clause-runs : goal.returns-in_err-run_line-clause-runs
returns-in_err-run_line-clause-runs g c =
    let left = run_first_left served_in_turn c.args.busy c.args.count c.loop-command._command (c.in-Some.number, c.in-Some.command) (commands_left c.loop-command.commands) _ c.loop-command.supply c.loop-command-test.true c.in-Some.ensures in
    leaves_fault c.from_residual.result _ c.from_residual.ensures.0 (step_stops _ left c.loop-command.invariant.1 c.in_err-run_line.ensures)

pub loop-command-preserved : goal.loop-command-preserved
loop-command-preserved g c =
    let left = run_first_left served_in_turn c.args.busy c.args.count c.loop-command._command (c.in-Some.number, c.in-Some.command) (commands_left c.loop-command.commands) _ c.loop-command.supply c.loop-command-test.true c.in-Some.ensures in (
      left_next c.loop-command._command (c.in-Some.number, c.in-Some.command) (commands_left c.args.commands.now) (commands_left c.loop-command.commands) _ c.loop-command.invariant.0 c.in-Some.ensures,
      step_gives _ left c.loop-command.invariant.1 c.in_ok-run_line.ensures,
    )

pub returns-clause-runs : goal.returns-clause-runs
returns-clause-runs g c =
    rw (all_ran served_in_turn c.args.busy c.args.count c.loop-command._command (commands_left c.loop-command.commands) c.loop-command.supply c.loop-command-test.false) at c.loop-command.invariant.1

pub returns-clause-passed : goal.returns-clause-passed
returns-clause-passed g c =
    left_done c.loop-command._command c.args.count (commands_left c.args.commands.now) (commands_left c.loop-command.commands) c.loop-command.auto._command-end c.loop-command-test.false c.loop-command.invariant.0

use Rattle.std.proofs.Common.{length}
use Rattle.cns_input.specs.Sections.{raw_lines}
use Rattle.cns_batch.specs.ByWorkers.{served_by_workers}
use Rattle.cns_batch.specs.Run.{commands_of, commands_left, script_run}
use Rattle.cns_batch.specs.Runs.{Continues, at}
use Rattle.cns_batch.proofs.at_desk.run_script.Given as goal

abbrev pub invariant-loop-number : goal.invariant-loop-number
invariant-loop-number g l =
    Continues g.N.Nodes.leads (script_run served_by_workers 0 (commands_of 1 (raw_lines l.script)) l.fn.supply) (script_run served_by_workers 0 (commands_left l.commands) l.supply)
    (at l.fn.run (g.W.Write.contents l.fn.writer)) (at l.run (g.W.Write.contents l.writer))

abbrev pub decreases-loop-number : goal.decreases-loop-number
decreases-loop-number g l = length (commands_left l.commands)

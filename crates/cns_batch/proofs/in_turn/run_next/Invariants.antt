use Rattle.std.proofs.Common.{◌≡◌, ◌-◌, drop, take}
use Rattle.cns_batch.specs.Commands.{served_in_turn}
use Rattle.cns_batch.specs.InTurn.{LeadsInTurn}
use Rattle.cns_batch.specs.Run.{all_run, commands_left}
use Rattle.cns_batch.specs.Runs.{Continues, at}
use Rattle.cns_batch.proofs.in_turn.run_next.Given as goal

abbrev pub invariant-loop-command : goal.invariant-loop-command
invariant-loop-command g l = (commands_left l.commands ≡ drop l._command (commands_left l.fn.commands))
    × Continues LeadsInTurn (all_run served_in_turn l.busy (take l.count (commands_left l.fn.commands)) l.fn.supply)
    (all_run served_in_turn l.busy (take (l.count - l._command) (commands_left l.commands)) l.supply) (at l.fn.run (g.W.Write.contents l.fn.writer)) (at l.run (g.W.Write.contents l.writer))

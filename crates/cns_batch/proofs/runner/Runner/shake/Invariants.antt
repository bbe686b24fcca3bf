use Rattle.std.proofs.Common.{◌-◌}
use Rattle.cns_batch.specs.Commands.{shaken}
use Rattle.cns_batch.specs.Runs.{Continues, at}
use Rattle.cns_batch.proofs.runner.Runner.shake.Given as goal

abbrev pub invariant-loop-draw : goal.invariant-loop-draw
invariant-loop-draw g l =
    Continues g.N.Nodes.leads (shaken 16 l.fn.shaker) (shaken (16 - l._draw) l.shaker) (at l.fn.self (g.W.Write.contents l.fn.writer)) (at l.self (g.W.Write.contents l.writer))

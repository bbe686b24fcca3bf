use Rattle.std.proofs.Common.{◌-◌}
use Rattle.cns_batch.specs.Commands.{first_taken}
use Rattle.cns_batch.specs.Runs.{Continues, at}
use Rattle.cns_batch.proofs.runner.Runner.take.Given as goal

abbrev pub invariant-loop-turn : goal.invariant-loop-turn
invariant-loop-turn g l =
    Continues g.N.Nodes.leads (first_taken l.rows l.fn.supply) (first_taken (l.rows - l._turn) l.supply) (at l.fn.self (g.W.Write.contents l.fn.writer)) (at l.self (g.W.Write.contents l.writer))

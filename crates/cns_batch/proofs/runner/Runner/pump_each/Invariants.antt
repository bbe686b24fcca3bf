use Rattle.std.proofs.Common.{drop}
use Rattle.cns_batch.specs.Acts.{each}
use Rattle.cns_batch.specs.Commands.{pumped}
use Rattle.cns_batch.specs.Runs.{Continues, at}
use Rattle.cns_batch.proofs.runner.Runner.pump_each.Given as goal

abbrev pub invariant-loop-number : goal.invariant-loop-number
invariant-loop-number g l =
    Continues g.N.Nodes.leads (each pumped l.numbers) (each pumped (drop l.number-index l.numbers)) (at l.fn.self (g.W.Write.contents l.fn.writer)) (at l.self (g.W.Write.contents l.writer))

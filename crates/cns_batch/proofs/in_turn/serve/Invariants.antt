use Rattle.std.proofs.Common.{drop}
use Rattle.cns_batch.specs.Commands.{served}
use Rattle.cns_batch.specs.InTurn.{LeadsInTurn}
use Rattle.cns_batch.specs.Runs.{Continues, at}
use Rattle.cns_batch.proofs.in_turn.serve.Given as goal

abbrev pub invariant-loop-planned : goal.invariant-loop-planned
invariant-loop-planned g l =
    Continues LeadsInTurn (served l.number l.plan) (served l.number (drop l.planned-index l.plan)) (at l.fn.run (g.W.Write.contents l.fn.writer)) (at l.run (g.W.Write.contents l.writer))

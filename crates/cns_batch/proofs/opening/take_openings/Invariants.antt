use Rattle.std.proofs.Common.{◌≡◌, ◌+◌, [], drop}
use Rattle.std.specs.List.{enumerate_from, fold}
use Rattle.cns_batch.specs.Opened.{told_opening}
use Rattle.cns_batch.proofs.opening.take_openings.Given as goal

abbrev pub invariant-loop-row : goal.invariant-loop-row
invariant-loop-row l =
    (l.number ≡ l.row-index + 1)
    × (fold told_opening (l.openings, l.out.text) (enumerate_from l.number (drop l.row-index l.rows)) ≡ fold told_opening ([], l.fn.out.text) (enumerate_from 1 l.rows))

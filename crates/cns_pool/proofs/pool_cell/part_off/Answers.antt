use Rattle.std.proofs.Common.{arith}
use Rattle.cns_pool.proofs.SplitLemmas.{worker_splits}
use Rattle.cns_pool.proofs.pool_cell.part_off.Goals as goal

pub split_seat-requires : goal.split_seat-requires
split_seat-requires g c =
    (c.requires.table, c.requires.words, worker_splits _ _ _ _ c.requires.works (omega (arith, c.requires.picks.0, c.requires.budget)) (omega (arith, c.requires.picks.1, c.requires.calls)))

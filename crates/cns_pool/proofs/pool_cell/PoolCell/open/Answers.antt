use Rattle.std.proofs.Common.{ap, rules}
use Rattle.cns_pool.proofs.SplitLemmas.{opens, feeder_splits}
use Rattle.cns_pool.proofs.pool_cell.PoolCell.open.Goals as goal

pub of_words-requires : goal.of_words-requires
of_words-requires c = opens _ _ _ c.requires.budget c.requires.pours

pub split_seat-feeding-requires : goal.split_seat-feeding-requires
split_seat-feeding-requires c = (search rules, search rules, feeder_splits _ _ (ap (λ m. m.0.feeds) c.in_ok-words.ensures.4))

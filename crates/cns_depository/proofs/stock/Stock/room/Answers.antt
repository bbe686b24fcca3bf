use Rattle.std.proofs.Common.{ap}
use Rattle.cns_depository.specs.Totals.{moved_at}
use Rattle.cns_depository.proofs.TotalLemmas.{totals_kept}
use Rattle.cns_depository.proofs.stock.Stock.room.Goals as goal

pub returns-clause-same : goal.returns-clause-same
returns-clause-same c = λ p are. totals_kept _ _ _ _ p (λ k. ap moved_at (c.reserve.ensures.entries.2 k)) c.reserve-2.ensures.entries.2 are

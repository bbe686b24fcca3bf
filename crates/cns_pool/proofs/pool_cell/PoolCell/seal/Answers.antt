use Rattle.std.proofs.Common.{arith, sym, ap, ◌∙◌}
use Rattle.cns_pool.specs.FeederSeat.{FeederState}
use Rattle.cns_pool.specs.CellWords.{Token}
use Rattle.cns_pool.proofs.StepLemmas.{seals}
use Rattle.cns_pool.proofs.pool_cell.PoolCell.seal.Goals as goal

pub fetch_or-requires : goal.fetch_or-requires
fetch_or-requires c =
    (ap (λ (f : FeederState). f.cell) c.seat.view_is ∙ c.requires.cell ∙ sym c.self.view_is, omega (arith, c.self.invariant.0), seals _ _ _ (ap (λ (t : Token). t.0.feeds) c.seat.invariant.view))

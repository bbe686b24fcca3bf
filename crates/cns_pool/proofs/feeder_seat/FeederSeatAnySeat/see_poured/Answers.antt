use Rattle.std.proofs.Common.{arith, sym, ap, ◌∙◌}
use Rattle.cns_pool.specs.FeederSeat.{FeederState}
use Rattle.cns_pool.proofs.StepLemmas.{looks_poured}
use Rattle.cns_pool.proofs.feeder_seat.FeederSeatAnySeat.see_poured.Goals as goal

pub load-requires : goal.load-requires
load-requires c = (ap (λ (f : FeederState). f.cell) c.self.view_is ∙ c.requires ∙ sym c.cell.view_is, omega (arith, c.cell.invariant.0), looks_poured _ _ _)

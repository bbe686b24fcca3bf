use Rattle.std.proofs.Common.{arith, ap}
use Rattle.cns_pool.specs.Pool.{Pooled}
use Rattle.cns_pool.proofs.HeldLemmas.{IsHeld_reserved}
use Rattle.cns_pool.proofs.held.HeldPool.reserve.Goals as goal

pub invariant_of-self : goal.invariant_of-self
invariant_of-self c =
    IsHeld_reserved _ _ c.self.inside.feeder c.self.invariant (omega (arith, ap (λ (p : Pooled). p.calls) c.self.view_is, c.requires.calls))
    c.args.member c.args.asked c.requires.some (omega (arith, ap (λ (p : Pooled). p.budget) c.self.view_is, c.requires.budget))
    c.reserve-answer.new.seat _ c.reserve-answer.result _ c.compare_seals.ensures.feeder.0 c.reserve-answer.ensures c.compare_seals.ensures.same c.compare_seals.ensures.feeder.1

pub returns-clause-lawful : goal.returns-clause-lawful
returns-clause-lawful c = (invariant_of-self c).lawful

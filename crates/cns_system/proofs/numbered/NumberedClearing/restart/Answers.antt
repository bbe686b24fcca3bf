use Rattle.std.proofs.Common.{List, [], subst, sym}
use Rattle.cns_clearing.specs.declared.lot.Lot.{Lot}
use Rattle.cns_system.specs.Lot.{LotState}
use Rattle.cns_system.specs.Numbered.{AreTied}
use Rattle.cns_system.proofs.TiedLemmas.{tied_ended}
use Rattle.cns_system.proofs.numbered.NumberedClearing.restart.Goals as goal

pub invariant_of-self : goal.invariant_of-self
invariant_of-self g c =
    subst (λ (l : List Lot). AreTied l c.end_all.new.self.lots) (sym c.restart.ensures.1)
    (subst (λ (l : List LotState). AreTied [] l) (sym c.end_all.ensures) (tied_ended c.self.inside.lots.lots))

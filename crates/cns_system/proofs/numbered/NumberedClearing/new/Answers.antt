use Rattle.std.proofs.Common.{List, [], subst, sym}
use Rattle.cns_clearing.specs.declared.lot.Lot.{Lot}
use Rattle.cns_system.specs.Lot.{LotState}
use Rattle.cns_system.specs.Numbered.{AreTied}
use Rattle.cns_system.proofs.TiedLemmas.{tied_ended}
use Rattle.cns_system.proofs.numbered.NumberedClearing.new.Goals as goal

pub invariant_of-result : goal.invariant_of-result
invariant_of-result g c =
    let none : AreTied [] [] = tied_ended [] in
    subst (λ (open_lots : List Lot). AreTied open_lots c.new.result.lots) (sym c.requires) (subst (λ (lots : List LotState). AreTied [] lots) (sym c.new.ensures) none)

use Rattle.std.proofs.Common.{[], refl}
use Rattle.cns_batch.proofs.PrintLemmas.{prints_after, prints_fault, prints_kept}
use Rattle.cns_batch.proofs.page.Page.pass_on.Goals as goal

pub returns-in_err-flush : goal.returns-in_err-flush
returns-in_err-flush g c = prints_fault [] c.from_residual.result _ _ c.from_residual.ensures.0 c.in_err-flush.ensures.prints

pub returns : goal.returns
returns g c = prints_after c.hand_on.result _ _ _ [] [] c.in_ok-flush.ensures.prints (prints_kept c.hand_on.result _ _ c.hand_on.ensures.keeps refl)

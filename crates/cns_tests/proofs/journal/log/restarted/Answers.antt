use Rattle.std.proofs.Common.{◌≤◌, ◌∙◌, ap, arith, List, Err}
use Rattle.cns_journal.specs.RecordLog.{LogState}
use Rattle.cns_tests.specs.declared.journal.log.Mark.{Mark}
use Rattle.cns_journal.specs.declared.record_log.CommitFault.TheVariants.{Device}
use Rattle.cns_journal.proofs.LogLemmas.{committed_lawful, planned_lawful}
use Rattle.cns_tests.proofs.journal.log.restarted.Goals as goal

pub restart-requires-clause-lawful : goal.restart-requires-clause-lawful
restart-requires-clause-lawful c =
    let allows : List Mark → Mark → Type 0 = λ before m. m.number ≤ 9 in
    let failed = rw c.in-Err-Device.field-0-is at c.in-Err-Device.ensures in
    let up = ap (λ (log : LogState Mark). log.down) c.plan.ensures.1 ∙ c.requires.up in
    committed_lawful allows (record { number = 7 }) (Err Device) _ _ (planned_lawful allows _ _ _ _ c.requires.lawful c.plan.ensures) up (omega arith) failed.leaves

use Rattle.std.proofs.Common.{◌∙◌, ap}
use Rattle.std.proofs.lemmas.Result.{IfOk-weaker}
use Rattle.cns_depository.specs.Ranges.{standing}
use Rattle.cns_audit.proofs.RowLemmas.{stands-again}
use Rattle.cns_audit.proofs.check.take_openings.Goals as goal

pub returns-in-Some-clause-list : goal.returns-in-Some-clause-list
returns-in-Some-clause-list g c = IfOk-weaker c.take_rows.result _ _ (λ list is. rw c.in-Some.is (ap standing is ∙ stands-again c.in-Some.rows.now)) c.take_rows.ensures.list

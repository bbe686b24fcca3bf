use Rattle.std.proofs.Common.{◌∙◌, sym, arith}
use Rattle.std.proofs.lemmas.Result.{IfOk-weaker}
use Rattle.cns_audit.proofs.check.check_journals.Goals as goal

pub returns-in-Ok-clause-clean : goal.returns-in-Ok-clause-clean
returns-in-Ok-clause-clean g c = IfOk-weaker c.end.result _ _ (λ faults same none. c.in-Ok.ensures.clean (sym same ∙ none)) c.end.ensures

pub returns-in-Ok-clause-faulty : goal.returns-in-Ok-clause-faulty
returns-in-Ok-clause-faulty g c = IfOk-weaker c.end.result _ _ (λ faults same some asked. c.in-Ok.ensures.faulty (omega (arith, same, some)) c.new-told.ensures asked) c.end.ensures

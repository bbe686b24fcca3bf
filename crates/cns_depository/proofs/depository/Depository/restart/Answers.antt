use Rattle.std.proofs.Common.{Ok, Err, subst, sym}
use Rattle.cns_journal.proofs.LogLemmas.{restarted_lawful, unread_records}
use Rattle.cns_records.specs.Dep.{HasDepPayload, dep_spelling}
use Rattle.cns_records.proofs.DepLaws.{dep_spelling_injective}
use Rattle.cns_depository.specs.Stock.{IsExecutable}
use Rattle.cns_depository.specs.Totals.{IsStockOf}
use Rattle.cns_depository.proofs.depository.Depository.restart.Goals as goal

pub restart-requires-clause-payloads : goal.restart-requires-clause-payloads
restart-requires-clause-payloads g c = dep_spelling_injective

pub invariant_of-self : goal.invariant_of-self
invariant_of-self g c = record {
  lawful = restarted_lawful (IsExecutable c.self.inside.openings) dep_spelling HasDepPayload (Ok c.in-Ok.restarted) c.self.inside.log c.restart.new.self c.self.invariant.lawful c.in-Ok.ensures.leaves;
  totals = c.in-Ok.ensures.comes;
}

pub invariant_of-self-in-Err : goal.invariant_of-self-in-Err
invariant_of-self-in-Err g c = record {
  lawful = restarted_lawful (IsExecutable c.self.inside.openings) dep_spelling HasDepPayload (Err c.in-Err.fault) c.self.inside.log c.restart.new.self c.self.invariant.lawful c.in-Err.ensures.leaves;
  totals = subst (IsStockOf c.self.inside.stock)
      (sym (unread_records (IsExecutable c.self.inside.openings) dep_spelling HasDepPayload c.in-Err.fault c.self.inside.log c.restart.new.self c.in-Err.ensures.leaves)) c.self.invariant.totals;
}

use Rattle.cns_records.proofs.DepLaws.{dep_bad_is_none}
use Rattle.cns_records.proofs.dep_record.DepRecordRecord.read.Goals as goal

pub returns-in_err-read-clause-none : goal.returns-in_err-read-clause-none
returns-in_err-read-clause-none c = λ is. dep_bad_is_none c.args.payload.now _ c.in_err-read.ensures.exact

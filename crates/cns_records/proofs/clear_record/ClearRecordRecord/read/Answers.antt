use Rattle.cns_records.proofs.ClearLaws.{bad_is_none}
use Rattle.cns_records.proofs.clear_record.ClearRecordRecord.read.Goals as goal

pub returns-clause-none : goal.returns-clause-none
returns-clause-none c = bad_is_none c.args.payload.now c.read.result c.read.ensures.exact

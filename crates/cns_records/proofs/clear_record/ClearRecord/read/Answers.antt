use Rattle.std.proofs.Common.{arith}
use Rattle.cns_records.proofs.ClearLaws.{is_spelled}
use Rattle.cns_records.proofs.clear_record.ClearRecord.read.Goals as goal

pub returns-clause-spelled : goal.returns-clause-spelled
returns-clause-spelled c = is_spelled c.args.payload.now c.record_of.result (λ i. omega (arith, c.type_inv.payload i)) c.record_of.ensures

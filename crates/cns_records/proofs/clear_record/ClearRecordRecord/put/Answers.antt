use Rattle.std.proofs.Common.{◌≤◌, length, rules}
use Rattle.cns_records.specs.Clear.{spelling}
use Rattle.cns_records.proofs.ClearLaws.{spelling_short}
use Rattle.cns_records.proofs.clear_record.ClearRecordRecord.put.Goals as goal

pub returns-clause-size : goal.returns-clause-size
returns-clause-size c =
    let short : length (spelling c.args.self.now) ≤ 1048576 = spelling_short c.args.self.now c.add_payload.ensures.ranges in
    search rules

use Rattle.std.proofs.Common.{◌≤◌, length, rules}
use Rattle.cns_records.specs.Dep.{dep_spelling}
use Rattle.cns_records.proofs.DepLaws.{dep_spelling_short}
use Rattle.cns_records.proofs.dep_record.DepRecordRecord.put.Goals as goal

pub returns-clause-size : goal.returns-clause-size
returns-clause-size c =
    let short : length (dep_spelling c.args.self.now) ≤ 1048576 = dep_spelling_short c.args.self.now in
    search rules

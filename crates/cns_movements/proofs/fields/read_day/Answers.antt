use Rattle.std.proofs.Common.{◌≡◌, arith, rules}
use Rattle.cns_movements.specs.Fields.{read_day}
use Rattle.cns_movements.proofs.FieldLemmas.{day_spelled}
use Rattle.cns_movements.proofs.fields.read_day.Goals as goal

pub returns-clause-spelled : goal.returns-clause-spelled
unfolding read_day
returns-clause-spelled c =
    let read : c.ok.result ≡ read_day c.args.bytes.now = search rules in
    day_spelled c.args.bytes.now c.ok.result c.requires (λ i. grind arith) read

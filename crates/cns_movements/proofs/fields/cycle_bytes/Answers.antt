use Rattle.std.proofs.Common.{ap, ◌∙◌, rules}
use Rattle.cns_movements.specs.Fields.{read_cycle}
use Rattle.cns_movements.proofs.FieldLemmas.{read_cycle-cycle_bytes}
use Rattle.cns_movements.proofs.fields.cycle_bytes.Goals as goal

pub returns-clause-back : goal.returns-clause-back
returns-clause-back c = ap read_cycle (search rules) ∙ read_cycle-cycle_bytes c.args.id c.day_bytes.ensures.real

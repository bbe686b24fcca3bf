use Rattle.std.proofs.Common.{◌≡◌, arith}
use Rattle.std.proofs.lemmas.Grind.{common_steps}
use Rattle.cns_records.specs.Clear.{read_clear_of, allocate_of}
use Rattle.cns_records.proofs.ClearLaws.{no_allocation}
use Rattle.cns_records.proofs.clear_record.record_of.Goals as goal

pub returns-in_err-read_allocation : goal.returns-in_err-read_allocation
unfolding read_clear_of
returns-in_err-read_allocation c =
    let is : read_clear_of c.args.payload.now ≡ allocate_of c.new-fields.result = grind (arith, common_steps) in
    no_allocation c.args.payload.now c.new-fields.result c.in_err-read_allocation.field-0.0 c.from_residual.result is
    c.in_err-read_allocation.ensures c.from_residual.ensures.1

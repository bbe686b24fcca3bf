use Rattle.std.proofs.Common.{◌<◌, ◌∙◌, arith, sym}
use Rattle.std.proofs.lemmas.Result.{on_ok_weaker}
use Rattle.csv.specs.Records.{fields_of}
use Rattle.cns_check.proofs.RepeatLemmas.{header_passed, row_passed}
use Rattle.cns_check.proofs.seen.Seen.pass.Goals as goal

pub returns-then-row-eq0 : goal.returns-then-row-eq0
returns-then-row-eq0 c = λ records at was. header_passed c.args.self.now records (fields_of c.args.fields.now) (sym at ∙ c.if-row-eq0.true) was

pub returns : goal.returns
returns c =
    let some : 0 < c.args.row = omega arith in
    on_ok_weaker c.pass_row.result (λ adds records at was.
    row_passed c.args.self.now c.pass_row.new.self records (fields_of c.args.fields.now) c.args.row some at adds was) c.pass_row.ensures

use Rattle.std.proofs.Common.{◌∙◌, ap, option_map, refl, sym}
use Rattle.std.proofs.lemmas.Result.{on_ok_weaker}
use Rattle.csv.specs.Records.{fields_of}
use Rattle.cns_check.specs.declared.seen.FirstRow.{FirstRow}
use Rattle.cns_check.proofs.RepeatLemmas.{comes_again, is_first, no_id}
use Rattle.cns_check.proofs.seen.Seen.pass_row.Goals as goal

pub returns-in_default : goal.returns-in_default
returns-in_default c = λ rows at was. no_id c.args.self.now rows (fields_of c.args.fields.now) c.args.row at (sym c.id_of.ensures ∙ c.in_default.is) was

pub returns-in-Some-get : goal.returns-in-Some-get
returns-in-Some-get c =
    let known = ap (option_map (λ (r : FirstRow). r.row)) (sym c.in-Some-get.ensures.value) in
    on_ok_weaker c.add.result (λ adds rows at was.
    comes_again c.args.self.now _ rows (fields_of c.args.fields.now) c.args.row c.in-Some.id c.in-Some-get.earlier.now.row at (sym c.id_of.ensures ∙ c.in-Some.is) known (λ q. refl) adds was) c.add.ensures

pub returns-in_ok-insert-in-None : goal.returns-in_ok-insert-in-None
returns-in_ok-insert-in-None c = λ rows at was.
    let absent = ap (option_map (λ (r : FirstRow). r.row)) (sym c.in-None.ensures.value) in
    is_first c.args.self.now _ rows (fields_of c.args.fields.now) c.in-Some.id (record { row = c.args.row; line = c.args.line }) at (sym c.id_of.ensures ∙ c.in-Some.is) absent c.in_ok-insert-in-None.ensures.updates.0 was.repeats was

use Rattle.std.proofs.Common.{◌≡◌, ◌∙◌, None, Some, ap, reverse, rules, sym}
use Rattle.std.specs.Prelude.{option_and_then}
use Rattle.cns_depository.specs.Stock.{instructed_in}
use Rattle.cns_depository.specs.Totals.{record_of}
use Rattle.cns_depository.specs.declared.key.Key.TheVariants as key
use Rattle.cns_depository.proofs.MovementLemmas.{instruction_by_key}
use Rattle.cns_depository.proofs.stock.Stock.instruction_at.Goals as goal

pub returns-in_err-record : goal.returns-in_err-record
returns-in_err-record c =
    let none : record_of (reverse c.args.records.now) (key.Own c.args.member c.args.number) ≡ None = search rules in
    c.from_residual.ensures ∙ ap (option_and_then instructed_in) (sym none) ∙ instruction_by_key (reverse c.args.records.now) c.args.member c.args.number

pub returns : goal.returns
returns c =
    let some : record_of (reverse c.args.records.now) (key.Own c.args.member c.args.number) ≡ Some c.in_ok-record.record = search rules in
    c.instructed_in.ensures ∙ ap (option_and_then instructed_in) (sym some) ∙ instruction_by_key (reverse c.args.records.now) c.args.member c.args.number

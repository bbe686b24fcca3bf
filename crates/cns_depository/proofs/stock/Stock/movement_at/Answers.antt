use Rattle.std.proofs.Common.{◌≡◌, ◌∙◌, None, Some, ap, reverse, rules, sym}
use Rattle.std.specs.Prelude.{option_and_then}
use Rattle.cns_depository.specs.Stock.{executed_in}
use Rattle.cns_depository.specs.Totals.{record_of}
use Rattle.cns_depository.specs.declared.key.Key.TheVariants as key
use Rattle.cns_depository.proofs.MovementLemmas.{movement_by_key}
use Rattle.cns_depository.proofs.stock.Stock.movement_at.Goals as goal

pub returns-in_err-record : goal.returns-in_err-record
returns-in_err-record c =
    let none : record_of (reverse c.args.records.now) (key.Movement c.args.number) ≡ None = search rules in
    c.from_residual.ensures ∙ ap (option_and_then executed_in) (sym none) ∙ movement_by_key (reverse c.args.records.now) c.args.number

pub returns : goal.returns
returns c =
    let some : record_of (reverse c.args.records.now) (key.Movement c.args.number) ≡ Some c.in_ok-record.record = search rules in
    c.executed_in.ensures ∙ ap (option_and_then executed_in) (sym some) ∙ movement_by_key (reverse c.args.records.now) c.args.number

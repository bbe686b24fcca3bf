use Rattle.std.proofs.Common.{◌≡◌, refl, sym, ◌∙◌, get_or, true}
use Rattle.std.proofs.lemmas.List.Folds.{list_all_more}
use Rattle.cns_ids.specs.Number.{decimal_value, is_digit}
use Rattle.cns_ids.proofs.NumberLemmas.{value_step}
use Rattle.cns_ids.proofs.number.capped_value_of.Goals as goal

pub loop-digit-init : goal.loop-digit-init
unfolding decimal_value
loop-digit-init c = (refl, refl)

pub loop-digit-preserved : goal.loop-digit-preserved
loop-digit-preserved c =
    let lt = c.loop-digit-test.true in
    let text = c.args.text.now in
    let at = c.loop-digit.digit-index in
    let digit : is_digit (get_or text at 0) ≡ true = sym c.is_ascii_digit.ensures.value ∙ c.if-not-is_ascii_digit.false in
    let all = list_all_more is_digit text at 0 lt in (
      all ∙ rw (c.loop-digit.invariant.0, digit) refl,
      c.next_value-value.ensures.value ∙ value_step text at c.loop-digit.value lt c.loop-digit.invariant.1,
    )

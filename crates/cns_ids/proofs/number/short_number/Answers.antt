use Rattle.std.proofs.Common.{◌≡◌, ◌∙◌, refl, sym, ap, arith, get_or, take, true, false, Ok}
use Rattle.std.proofs.lemmas.List.{take_more, take_all}
use Rattle.std.proofs.lemmas.List.Folds.{list_all_more, list_all_at}
use Rattle.cns_ids.specs.Number.{decimal_value, is_digit}
use Rattle.cns_ids.proofs.NumberLemmas.{decimal_value-push, number_in_some, short_is, short_so_far}
use Rattle.cns_ids.proofs.number.short_number.Goals as goal

pub loop-digit-init : goal.loop-digit-init
unfolding decimal_value
loop-digit-init c = (refl, refl)

pub overflow_mul-number : goal.overflow_mul-number
overflow_mul-number c =
    let below = short_so_far c.args.text.now c.loop-digit.digit-index c.loop-digit-test.true c.requires.short c.loop-digit.invariant.0 in
    omega (arith, below, c.loop-digit.invariant.1)

pub overflow_add-number : goal.overflow_add-number
overflow_add-number c =
    let below = short_so_far c.args.text.now c.loop-digit.digit-index c.loop-digit-test.true c.requires.short c.loop-digit.invariant.0 in
    omega (arith, below, c.loop-digit.invariant.1)

pub loop-digit-preserved : goal.loop-digit-preserved
loop-digit-preserved c =
    let lt = c.loop-digit-test.true in
    let text = c.args.text.now in
    let at = c.loop-digit.digit-index in
    let digit : is_digit (get_or text at 0) ≡ true = sym c.is_ascii_digit.ensures.value ∙ c.if-not-is_ascii_digit.false in
    let all = list_all_more is_digit text at 0 lt in
    let more = ap decimal_value (take_more text at 0 lt) ∙ decimal_value-push (take at text) (get_or text at 0) in
    (all ∙ rw (c.loop-digit.invariant.0, digit) refl, omega (arith, more, c.from.ensures, c.loop-digit.invariant.1))

pub returns-then-not-is_ascii_digit : goal.returns-then-not-is_ascii_digit
returns-then-not-is_ascii_digit c =
    let text = c.args.text.now in
    let lt = c.loop-digit-test.true in
    let at = c.loop-digit.digit-index in
    let no_digit : is_digit (get_or text at 0) ≡ false = sym c.is_ascii_digit.ensures.value ∙ c.if-not-is_ascii_digit.true in
    let none = list_all_at is_digit text at 0 lt no_digit in
    sym (number_in_some 0 18446744073709551615 text c.requires.some ∙ rw none refl)

pub returns : goal.returns
returns c =
    let text = c.args.text.now in
    let whole = take_all c.loop-digit.digit-index text (omega (arith, c.loop-digit-test.false)) in
    let all = rw whole at c.loop-digit.invariant.0 in
    ap Ok (c.loop-digit.invariant.1 ∙ ap decimal_value whole) ∙ sym (short_is text c.requires.some c.requires.short all)

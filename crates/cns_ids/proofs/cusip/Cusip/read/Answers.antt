use Rattle.std.proofs.Common.{◌≡◌, ◌+◌, ◌<◌, ◌∙◌, ℕ, Err, Ok, ap, arith, false, get_or, refl, sym, true}
use Rattle.std.specs.Prelude.{slice_index, ◌==◌}
use Rattle.std.proofs.lemmas.Bool.{eq-eqb, ne_eqb}
use Rattle.std.proofs.lemmas.Result.{err_from_is_err_and}
use Rattle.cns_ids.specs.Cusip.{check_digit}
use Rattle.cns_ids.specs.Number.{is_digit}
use Rattle.cns_ids.specs.declared.cusip.CusipFault.TheVariants as fault
use Rattle.cns_ids.proofs.CusipLemmas.{check_digit-head, first_bad-all, first_bad-head, first_bad-last, is_cusip, read_bad, read_listed, widened-nine}
use Rattle.cns_ids.proofs.cusip.Cusip.read.Goals as goal

pub returns-in_err-head : goal.returns-in_err-head
returns-in_err-head c =
    let text = c.args.text.now in
    let size = c.if-text-ne9.false in
    let found = c.in_err-head.ensures in
    let told = read_bad text found.place size (first_bad-head text found.place size found.first) ∙ ap Err (sym found.told) in
    let raised = err_from_is_err_and c.from_residual.result c.from_residual.ensures.1 in
    record { exact = rw (raised.1, raised.2) (sym told) }

pub returns-then-not-is_ascii_digit : goal.returns-then-not-is_ascii_digit
returns-then-not-is_ascii_digit c =
    let text = c.args.text.now in
    let size = c.if-text-ne9.false in
    let none : is_digit (slice_index text 8) ≡ false = sym c.is_ascii_digit.ensures.value ∙ c.if-not-is_ascii_digit.true in
    record { exact = sym (read_bad text 9 size (first_bad-last text size c.in_ok-head.ensures.listed ∙ rw none refl)) }

pub returns-then-digit-head : goal.returns-then-digit-head
returns-then-digit-head c =
    let text = c.args.text.now in
    let size = c.if-text-ne9.false in
    let head = c.in_ok-head.ensures in
    let listed = first_bad-all text size head.listed (sym c.is_ascii_digit.ensures.value ∙ c.if-not-is_ascii_digit.false) in
    let want = head.digit ∙ check_digit-head text size in
    let other : (slice_index text 8 == 48 + check_digit text) ≡ false = ne_eqb _ _ (λ e. c.if-digit-head.true (e ∙ ap (λ (d : ℕ). 48 + d) (sym want))) in
    record { exact = sym (read_listed text size listed ∙ rw other (ap (λ (d : ℕ). Err (fault.CheckDigit d)) (sym want))) }

pub returns : goal.returns
returns c =
    let text = c.args.text.now in
    let size = c.if-text-ne9.false in
    let head = c.in_ok-head.ensures in
    let listed = first_bad-all text size head.listed (sym c.is_ascii_digit.ensures.value ∙ c.if-not-is_ascii_digit.false) in
    let want = head.digit ∙ check_digit-head text size in
    let digit = c.if-digit-head.false ∙ ap (λ (d : ℕ). 48 + d) want in
    let right : (slice_index text 8 == 48 + check_digit text) ≡ true = eq-eqb _ _ digit in
    let number = widened-nine text c.in_ok-head.head.number c.from.result size head.number (sym c.from.ensures) (omega (arith, c.from.ensures, digit)) in
    record { exact = sym (read_listed text size listed ∙ rw right (ap Ok (sym number))) }

pub invariant_of-result : goal.invariant_of-result
invariant_of-result c =
    let text = c.args.text.now in
    let size = c.if-text-ne9.false in
    let head = c.in_ok-head.ensures in
    let bytes : (i : ℕ) → get_or text i 0 < 256 = λ i. omega (arith, c.type_inv.text i) in
    let listed = first_bad-all text size head.listed (sym c.is_ascii_digit.ensures.value ∙ c.if-not-is_ascii_digit.false) in
    let digit = c.if-digit-head.false ∙ ap (λ (d : ℕ). 48 + d) (head.digit ∙ check_digit-head text size) in
    let number = widened-nine text c.in_ok-head.head.number c.from.result size head.number (sym c.from.ensures) (omega (arith, c.from.ensures, digit)) in
    is_cusip text _ size bytes listed digit number

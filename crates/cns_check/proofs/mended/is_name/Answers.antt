use Rattle.std.proofs.Common.{◌∙◌, ap, arith, get_or, length, sym}
use Rattle.cns_check.proofs.MendedLemmas.{all_letters, other_letters}
use Rattle.cns_check.proofs.mended.is_name.Goals as goal

pub returns-in_default : goal.returns-in_default
returns-in_default c =
    let first = c.in-Some.ensures.cases.0 in
    other_letters c.args.line.now c.args.name.now c.loop-byte.rest.now c.loop-byte.byte-index c.loop-byte-test.true (sym c.is_beside.ensures ∙ c.if-not-is_beside.true) c.loop-byte.invariant
    (λ more e. c.if-first-to_ascii_lowercase.false (sym (ap (λ l. get_or l 0 0) (e ∙ first)) ∙ sym c.to_ascii_lowercase.ensures.value))

pub returns-in_default-2 : goal.returns-in_default-2
returns-in_default-2 c =
    let none = rw c.in_default.is at c.split_first.ensures.cases in
    other_letters c.args.line.now c.args.name.now c.loop-byte.rest.now c.loop-byte.byte-index c.loop-byte-test.true (sym c.is_beside.ensures ∙ c.if-not-is_beside.true) c.loop-byte.invariant
    (λ more e. omega (arith, ap length e, none))

pub returns : goal.returns
returns c = all_letters c.args.line.now c.args.name.now c.loop-byte.rest.now c.loop-byte.byte-index c.is_empty.result c.loop-byte-test.false c.loop-byte.invariant c.is_empty.ensures

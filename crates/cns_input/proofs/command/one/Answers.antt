use Rattle.std.proofs.Common.{arith}
use Rattle.std.proofs.lemmas.Bool.{ne_eqb}
use Rattle.cns_words.proofs.WordLemmas.{has_word}
use Rattle.cns_input.proofs.command.one.Goals as goal

pub returns-in_default-Some : goal.returns-in_default-Some
returns-in_default-Some c =
    let word = rw c.in_default-Some.is-1 at c.split_word.ensures in
    let next = has_word c.in_default-Some.field-0-1.now in
    rw (c.in_ok-rest.was, word, next.2) (ne_eqb _ _ (λ e. omega (arith, e)))

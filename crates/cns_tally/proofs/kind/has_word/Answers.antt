use Rattle.std.proofs.Common.{◌==◌, bytes_eq, rules, tests}
use Rattle.std.proofs.lemmas.Iterator.Search.{any_from_yields_List}
use Rattle.std.proofs.lemmas.Iterator.Splits.{YieldsList-from_slice_split}
use Rattle.cns_words.specs.Words.{line_words}
use Rattle.cns_tally.proofs.kind.has_word.Goals as goal

pub returns : goal.returns
unfolding line_words
returns c =
    any_from_yields_List (λ word. bytes_eq word c.args.this.now) _ _ _ c.any.ensures.ran
    (YieldsList-from_slice_split _ (λ byte. byte == 32) c.args.line.now c.split.ensures.rest c.split.ensures.done c.split.ensures.closure (λ x b q k. search (rules, tests)))
    (λ x b q k. search (rules, tests))

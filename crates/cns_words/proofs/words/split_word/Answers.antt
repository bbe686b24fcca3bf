use Rattle.std.proofs.Common.{sym}
use Rattle.std.proofs.lemmas.List.{take_rest}
use Rattle.cns_words.proofs.WordLemmas.{words_parted, words_whole}
use Rattle.cns_words.proofs.words.split_word.Goals as goal

pub returns-in-Some : goal.returns-in-Some
returns-in-Some c = rw take_rest (words_parted c.args.line.now c.in-Some.place (sym c.in-Some.ensures.place))

pub returns-in-None : goal.returns-in-None
returns-in-None c = words_whole c.args.line.now (sym c.in-None.ensures.place)

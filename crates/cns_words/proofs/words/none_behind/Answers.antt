use Rattle.std.proofs.Common.{rules}
use Rattle.cns_words.proofs.WordLemmas.{behind_is_none}
use Rattle.cns_words.proofs.words.none_behind.Goals as goal

pub returns : goal.returns
returns c = rw (← behind_is_none c.args.rest) (search rules)

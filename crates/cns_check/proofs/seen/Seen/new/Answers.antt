use Rattle.std.proofs.Common.{refl}
use Rattle.cns_check.proofs.seen.Seen.new.Goals as goal

pub returns : goal.returns
returns c = record { first = λ id. rw c.new.ensures.empty refl; repeats = c.new-2.ensures }

use Rattle.std.proofs.Common.{refl}
use Rattle.cns_check.proofs.repeat.Repeats.new.Goals as goal

pub returns : goal.returns
returns c = record { first = rw c.new.ensures.items refl; count = refl }

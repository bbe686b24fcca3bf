use Rattle.cns_file.proofs.TailLemmas.{damage_is_reported}
use Rattle.cns_file.proofs.tail.damage_is_reported.Goals as goal

pub returns : goal.returns
returns c = damage_is_reported

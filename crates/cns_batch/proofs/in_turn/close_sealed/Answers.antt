use Rattle.cns_batch.proofs.ActLemmas.{continues_here}
use Rattle.cns_batch.proofs.CommandLemmas.{not_sealed}
use Rattle.cns_batch.proofs.in_turn.close_sealed.Goals as goal

pub returns-in_default : goal.returns-in_default
returns-in_default g c = rw (not_sealed c.args.lot c.args.refusal c.in_default.not-Sealed) continues_here

use Rattle.cns_batch.proofs.AloneLemmas.{is_of_bytes}
use Rattle.cns_batch.proofs.batch.text_is_of_bytes.Goals as goal

pub returns : goal.returns
returns c = is_of_bytes

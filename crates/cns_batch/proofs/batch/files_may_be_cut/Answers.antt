use Rattle.cns_batch.proofs.FileLemmas.{files_may_be_cut}
use Rattle.cns_batch.proofs.batch.files_may_be_cut.Goals as goal

pub returns : goal.returns
returns c = files_may_be_cut

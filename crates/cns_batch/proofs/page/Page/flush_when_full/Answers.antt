use Rattle.cns_batch.proofs.PrintLemmas.{prints_nothing}
use Rattle.cns_batch.proofs.page.Page.flush_when_full.Goals as goal

pub returns-then-len-lt-FULL-clause-prints : goal.returns-then-len-lt-FULL-clause-prints
returns-then-len-lt-FULL-clause-prints g c = prints_nothing _

use Rattle.cns_batch.proofs.PrintLemmas.{prints_nothing}
use Rattle.cns_batch.proofs.page.Page.end_line.Goals as goal

pub returns-in-WhenFull : goal.returns-in-WhenFull
returns-in-WhenFull g c = prints_nothing _

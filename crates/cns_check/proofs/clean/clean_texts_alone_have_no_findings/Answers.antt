use Rattle.cns_check.proofs.CleanLemmas.{nothing_found}
use Rattle.cns_check.proofs.clean.clean_texts_alone_have_no_findings.Goals as goal

pub returns : goal.returns
returns c = nothing_found

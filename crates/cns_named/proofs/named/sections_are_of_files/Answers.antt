use Rattle.cns_named.proofs.MadeLemmas.{sections_of_files}
use Rattle.cns_named.proofs.named.sections_are_of_files.Goals as goal

pub returns : goal.returns
returns c = sections_of_files

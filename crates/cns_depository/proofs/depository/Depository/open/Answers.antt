use Rattle.cns_records.proofs.DepLaws.{dep_spelling_injective}
use Rattle.cns_depository.proofs.depository.Depository.open.Goals as goal

pub open-requires-clause-payloads : goal.open-requires-clause-payloads
open-requires-clause-payloads g c = dep_spelling_injective

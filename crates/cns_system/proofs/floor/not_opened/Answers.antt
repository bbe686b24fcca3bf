use Rattle.cns_system.proofs.BeginLemmas.{refused_occurs}
use Rattle.cns_system.proofs.floor.not_opened.Goals as goal

pub returns-clause-occurs : goal.returns-clause-occurs
returns-clause-occurs g c =
    refused_occurs c.args.issue c.refusal_without_cell.result c.args.system.now c.refusal_without_cell.ensures c.agreed.ensures.accord c.agreed.ensures.frames c.agreed.ensures.headline

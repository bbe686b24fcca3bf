use Rattle.cns_system.proofs.BeginLemmas.{open_refused}
use Rattle.cns_system.proofs.floor.open_lot.Goals as goal

pub returns-in_default-clause-err : goal.returns-in_default-clause-err
returns-in_default-clause-err g c =
    (c.happen.ensures, open_refused c.args.issue c.happen.result c.args.system.now c.happen.new.system c.happen.ensures.comes c.in_default.not-LotOpened)

use Rattle.std.proofs.Common.{subst, sym}
use Rattle.cns_system.specs.Floor.{IsLawfulFloor}
use Rattle.cns_system.proofs.DeskLemmas.{not_opened_in, opened_in}
use Rattle.cns_system.proofs.desk.Desk.begin.Goals as goal

pub returns-clause-opened : goal.returns-clause-opened
returns-clause-opened g c =
    opened_in c.args.issue c.begin.result c.deref_mut.result.now c.begin.new.self (subst IsLawfulFloor (sym c.deref_mut.ensures.value) c.lock.ensures)
    c.begin.ensures.lawful c.begin.ensures.ok

pub returns-clause-err : goal.returns-clause-err
returns-clause-err g c =
    not_opened_in c.args.issue c.begin.result c.deref_mut.result.now c.begin.new.self (subst IsLawfulFloor (sym c.deref_mut.ensures.value) c.lock.ensures)
    c.begin.ensures.lawful c.begin.ensures.err

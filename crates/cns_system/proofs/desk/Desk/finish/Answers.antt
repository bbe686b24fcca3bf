use Rattle.std.proofs.Common.{subst, sym}
use Rattle.cns_system.specs.Floor.{IsLawfulFloor}
use Rattle.cns_system.proofs.DeskLemmas.{entered_in}
use Rattle.cns_system.proofs.desk.Desk.finish.Goals as goal

pub returns : goal.returns
returns g c =
    entered_in (λ told. told.items) c.args.lot c.args.drawn.now c.tickets.result.now c.is_some.result c.finish.result c.deref_mut.result.now c.finish.new.self c.tickets.ensures
    c.is_some.ensures (subst IsLawfulFloor (sym c.deref_mut.ensures.value) c.lock.ensures) c.finish.ensures.lawful c.finish.ensures.ok c.finish.ensures.tickets

use Rattle.std.proofs.Common.{refl}
use Rattle.cns_system.specs.Shown.{shown_of}
use Rattle.cns_batch.proofs.at_desk.AtDeskNodes.report.Goals as goal

pub returns : goal.returns
returns g c =
    let floor = c.deref.result.now in
    (shown_of floor.system, (floor, c.system.ensures.lawful, refl), rw c.system.ensures.system at c.report-told.ensures)

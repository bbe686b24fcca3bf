use Rattle.std.proofs.Common.{refl}
use Rattle.cns_system.specs.Shown.{shown_of}
use Rattle.cns_batch.proofs.at_desk.AtDeskNodes.counts.Goals as goal

pub returns : goal.returns
returns g c = let floor = c.deref.result.now in (shown_of floor.system, (floor, rw c.deref.ensures c.lock.ensures, refl), c.counts.ensures)

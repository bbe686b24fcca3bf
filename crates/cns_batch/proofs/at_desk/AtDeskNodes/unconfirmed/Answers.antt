use Rattle.std.proofs.Common.{refl}
use Rattle.std.proofs.lemmas.Result.{IfOk-weaker}
use Rattle.cns_system.specs.Shown.{shown_of}
use Rattle.cns_batch.proofs.at_desk.AtDeskNodes.unconfirmed.Goals as goal

pub returns : goal.returns
returns g c =
    let floor = c.deref.result.now in
    IfOk-weaker c.unconfirmed.result _ _ (λ numbers is. (shown_of floor.system, (floor, rw c.deref.ensures c.lock.ensures, refl), is)) c.unconfirmed.ensures

use Rattle.std.proofs.Common.{inl}
use Rattle.cns_batch.proofs.at_desk.AtDeskNodes.step.Goals as goal

pub returns : goal.returns
returns g c = inl (c.deref_mut.result.now, c.step.new.self, rw c.deref_mut.ensures.value c.lock.ensures, c.step.ensures.lawful, c.step.ensures.step)

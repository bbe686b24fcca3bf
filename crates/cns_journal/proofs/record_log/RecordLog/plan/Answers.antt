use Rattle.cns_journal.specs.Keeper.{KeeperState}
use Rattle.cns_journal.proofs.LogLemmas.{log_planned}
use Rattle.cns_journal.proofs.record_log.RecordLog.plan.Goals as goal

pub invariant_of-self : goal.invariant_of-self
invariant_of-self g c =
    let k = g.K.Keeper in
    let old : KeeperState = k.state c.self.inside.keeper in
    let new : KeeperState = k.state c.plan.new.self in
    log_planned _ (λ _ _. Unit {0}) _ _ _ _ old new _ _ c.self.invariant c.plan.ensures.honest c.plan.ensures.leaves c.plan.ensures.keeps c.plan.ensures.foreseen

use Rattle.cns_journal.specs.Keeper.{KeeperState}
use Rattle.cns_journal.proofs.LogLemmas.{log_given_up}
use Rattle.cns_journal.proofs.record_log.RecordLog.into_keeper.Goals as goal

pub returns : goal.returns
returns g c =
    let keeper : KeeperState = g.K.Keeper.state c.self.inside.keeper in
    log_given_up _ (λ _ _. Unit {0}) _ _ _ _ _ keeper c.args.self c.self.invariant c.self.view_is

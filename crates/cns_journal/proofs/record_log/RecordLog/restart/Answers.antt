use Rattle.std.proofs.Common.{◌≡◌, rules, length}
use Rattle.cns_journal.proofs.LogLemmas.{log_unread, restart_accepted, restart_refused}
use Rattle.cns_journal.proofs.record_log.RecordLog.restart.Goals as goal

pub invariant_of-self : goal.invariant_of-self
invariant_of-self g c =
    log_unread _ (g.L.Ledger.allows c.args.context.now) _ _ _ _ _ _ _ c.in-Err.fault c.self.invariant c.in-Err.ensures.reread

pub returns-in-Err-clause-leaves : goal.returns-in-Err-clause-leaves
returns-in-Err-clause-leaves g c =
    rw (← c.self.view_is) (restart_refused _ (g.L.Ledger.allows c.args.context.now) _ c.requires.payloads _ _ _ _ _ _ _ c.in-Err.fault c.self.invariant (rw (← c.self.view_is) at c.requires.lawful) c.in-Err.ensures.reread c.in-Err.ensures.rejects)

pub returns-clause-leaves : goal.returns-clause-leaves
returns-clause-leaves g c =
    let after : c.len.result ≡ length c.in-Ok.records.items = search rules in
    let before : c.len-2.result ≡ length c.self.inside.records.items = search rules in
    let count : c.len-3.result ≡ length c.in-Ok.records.items = search rules in
    rw (c.in-Ok.ensures.rejects, ← c.self.view_is) (restart_accepted _ (g.L.Ledger.allows c.args.context.now) _ c.requires.payloads _ _ _ _ _ _ _ _ _ _ c.self.invariant c.in-Ok.ensures.reread after before count)

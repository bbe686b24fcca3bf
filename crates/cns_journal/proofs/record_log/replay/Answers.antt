use Rattle.std.proofs.Common.{ℕ, List, Err, vec_items, subst}
use Rattle.cns_journal.specs.Replay.{AdmitLeaves}
use Rattle.cns_journal.proofs.LogLemmas.{refused_replay}
use Rattle.cns_journal.proofs.record_log.replay.Goals as goal

pub returns-in-Err-clause-gives : goal.returns-in-Err-clause-gives
returns-in-Err-clause-gives g c =
    let spelling = g.L.Record.Record.spelling in
    let fits = g.L.Record.Record.fits in
    let allows = g.L.Ledger.allows c.args.context.now in
    refused_replay spelling allows fits vec_items c.args.payloads.now c.loop-payload.payload-index c.payload-item.result c.loop-payload.records.items c.admit.new.records.items c.in-Err.fault
    c.loop-payload-test.true c.payload-item.is c.loop-payload.invariant.replayed c.loop-payload.invariant.spelled
    (subst (λ (p : List ℕ). AdmitLeaves spelling allows fits p (Err c.in-Err.fault) c.loop-payload.records.items c.admit.new.records.items) c.as_slice.ensures.value c.in-Err.ensures.list)

use Rattle.std.proofs.Common.{refl}
use Rattle.std.proofs.lemmas.Result.{err_from_is_err_and}
use Rattle.cns_batch.proofs.DeskLemmas.{way_begun, way_continues, way_stops, way_unbegun}
use Rattle.cns_batch.proofs.at_desk.AtDeskLots.begin.Goals as goal

pub returns-in_err-told-in-Err-clause-runs : goal.returns-in_err-told-in-Err-clause-runs
returns-in_err-told-in-Err-clause-runs g c =
    let p = err_from_is_err_and c.from_residual.result c.from_residual.ensures.1 in
    rw p.1 (way_stops (way_unbegun {f = c.deref_mut.result.now} c.args.issue c.in-Err.refused (rw c.deref_mut.ensures.value c.lock.ensures) c.in-Err.ensures.err) c.in_err-told-in-Err.ensures.0 refl)

pub returns-in-Ok-lot-clause-runs : goal.returns-in-Ok-lot-clause-runs
returns-in-Ok-lot-clause-runs g c =
    way_continues (way_begun {f = c.deref_mut.result.now} c.len-longs.result (rw c.deref_mut.ensures.value c.lock.ensures) c.in-Ok.ensures.ok c.len-longs.ensures) c.in-Ok-lot.ensures.0 refl

pub returns-in-Err-lot-clause-runs : goal.returns-in-Err-lot-clause-runs
returns-in-Err-lot-clause-runs g c =
    way_stops (way_begun {f = c.deref_mut.result.now} c.len-longs.result (rw c.deref_mut.ensures.value c.lock.ensures) c.in-Ok.ensures.ok c.len-longs.ensures) c.in-Err-lot.ensures.0 refl

pub returns-in_ok-told-in-Err-clause-runs : goal.returns-in_ok-told-in-Err-clause-runs
returns-in_ok-told-in-Err-clause-runs g c =
    way_continues (way_unbegun {f = c.deref_mut.result.now} c.args.issue c.in-Err.refused (rw c.deref_mut.ensures.value c.lock.ensures) c.in-Err.ensures.err) c.in_ok-told-in-Err.ensures.0 refl

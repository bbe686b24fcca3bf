use Rattle.std.proofs.Common.{refl}
use Rattle.cns_batch.proofs.ActLemmas.{runs_fault, stops_here}
use Rattle.cns_batch.proofs.DeskLemmas.{way_end, way_runs}
use Rattle.cns_batch.proofs.at_desk.AtDeskLots.end.Goals as goal

pub returns-in_err-entered : goal.returns-in_err-entered
returns-in_err-entered g c = runs_fault c.from_residual.result c.from_residual.ensures.0 (stops_here refl refl)

pub returns : goal.returns
returns g c =
    let way =
    way_end c.args.lot c.args.drawn.now.seat.tickets c.args.drawn.now.cut c.is_sealed-sealed.result c.in_ok-entered.entered.items c.deref_mut.result.now c.finish-entered.new.self.system
    (rw c.deref_mut.ensures.value c.lock-floor.ensures)
    (rw (c.deref_mut.ensures.value, ← c.deref.ensures, ← c.is_some-cut.ensures) c.is_sealed-sealed.ensures)
    (rw (c.tickets.ensures, c.is_some-cut.ensures) at c.in_ok-entered.ensures.ok) in
    way_runs c.end-told.result _ _ way (rw c.as_slice.ensures.value at c.end-told.ensures).0 refl

use Rattle.std.specs.List.{flat_map}
use Rattle.std.proofs.lemmas.Result.{err_from_is_err_and}
use Rattle.cns_report.specs.Outcomes.{event_line, ordered_line, orders_made}
use Rattle.cns_batch.proofs.PutLemmas.{puts_after, puts_front}
use Rattle.cns_batch.proofs.page.Page.outcome.Goals as goal

pub returns-in_err-told : goal.returns-in_err-told
returns-in_err-told g c =
    let p = err_from_is_err_and c.from_residual.result c.from_residual.ensures.1 in
    let orders = flat_map ordered_line (orders_made c.args.outcome.now) in
    rw (p.1, p.2) (puts_front c.in_err-told.field-0.0 c.args.self.now c.told.new.self (g.W.Write.contents c.args.writer.now) (g.W.Write.contents c.told.new.writer) (event_line c.args.event.now c.args.outcome.now) orders c.in_err-told.ensures)

pub returns : goal.returns
returns g c =
    puts_after c.rows.result _ _ _ _ _ _ (event_line c.args.event.now c.args.outcome.now) (flat_map ordered_line (orders_made c.args.outcome.now)) c.in_ok-told.ensures
    (rw c.orders_of.ensures at c.rows.ensures)

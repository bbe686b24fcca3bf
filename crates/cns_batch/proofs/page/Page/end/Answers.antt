use Rattle.std.proofs.Common.{Err, ap, arith, length, subst}
use Rattle.std.proofs.lemmas.Result.{err_from_is_err_and}
use Rattle.cns_batch.specs.Runs.{Puts}
use Rattle.cns_batch.proofs.DeskLemmas.{end_is}
use Rattle.cns_batch.proofs.PutLemmas.{puts_after, puts_front}
use Rattle.cns_batch.proofs.page.Page.end.Goals as goal

pub returns-in_err-tickets : goal.returns-in_err-tickets
returns-in_err-tickets g c =
    let p = err_from_is_err_and c.from_residual.result c.from_residual.ensures.1 in
    let parts =
    end_is c.args.lot _ _ c.args.drawn.now.cut c.args.sealed c.args.entered.now c.split_at.result.0.now c.split_at.result.1.now (ap length c.tickets-tickets.ensures)
    c.split_at.ensures.front c.split_at.ensures.back (omega (arith, c.if-entered-tickets.false)) in
    rw (p.1, p.2)
    (subst (λ l. Puts l (Err c.in_err-tickets.field-0.0) c.args.self.now c.tickets-2.new.self (g.W.Write.contents c.args.writer.now) (g.W.Write.contents c.tickets-2.new.writer)) parts
    (search (puts_front, c.in_err-tickets.ensures)))

pub returns-in_err-cut : goal.returns-in_err-cut
returns-in_err-cut g c =
    let p = err_from_is_err_and c.from_residual-in_err-cut.result c.from_residual-in_err-cut.ensures.1 in
    let parts =
    end_is c.args.lot _ _ c.args.drawn.now.cut c.args.sealed c.args.entered.now c.split_at.result.0.now c.split_at.result.1.now (ap length c.tickets-tickets.ensures)
    c.split_at.ensures.front c.split_at.ensures.back (omega (arith, c.if-entered-tickets.false)) in
    rw (p.1, p.2)
    (subst (λ l. Puts l (Err c.in_err-cut.field-0.0) c.args.self.now c.cut.new.self (g.W.Write.contents c.args.writer.now) (g.W.Write.contents c.cut.new.writer)) parts
    (search (puts_after, puts_front, c.in_ok-tickets.ensures, c.in_err-cut.ensures)))

pub returns : goal.returns
returns g c =
    let parts =
    end_is c.args.lot _ _ c.args.drawn.now.cut c.args.sealed c.args.entered.now c.split_at.result.0.now c.split_at.result.1.now (ap length c.tickets-tickets.ensures)
    c.split_at.ensures.front c.split_at.ensures.back (omega (arith, c.if-entered-tickets.false)) in
    subst (λ l. Puts l c.close.result c.args.self.now c.close.new.self (g.W.Write.contents c.args.writer.now) (g.W.Write.contents c.close.new.writer)) parts
    (search (puts_after, c.in_ok-tickets.ensures, c.in_ok-cut.ensures, c.close.ensures))

use Rattle.std.proofs.Common.{arith}
use Rattle.std.proofs.lemmas.Result.{err_from_is_err_and}
use Rattle.cns_batch.proofs.PutLemmas.{puts_held, puts_none}
use Rattle.cns_batch.proofs.page.Page.told.Goals as goal

pub returns-in_err-tell : goal.returns-in_err-tell
returns-in_err-tell g c =
    let p = err_from_is_err_and c.from_residual.result c.from_residual.ensures.1 in
    rw (p.1, p.2) (puts_none (g.T.Put.text c.args.told.now) c.args.self.now c.tell.new.self (g.W.Write.contents c.args.writer.now) (rw c.self.view_is at c.in_err-tell.ensures.room) (rw c.self.view_is at c.in_err-tell.ensures.full))

pub returns : goal.returns
returns g c =
    puts_held c.flush_when_full.result (g.T.Put.text c.args.told.now) _ _ _ _ _ (rw c.self.view_is at c.in_ok-tell.ensures.ok) (rw c.self.view_is at c.in_ok-tell.ensures.room)
    (rw c.flush_when_full.ensures.room (omega arith)) c.flush_when_full.ensures.prints c.flush_when_full.ensures.kind

use Rattle.std.proofs.Common.{sym, ◌∙◌}
use Rattle.std.proofs.lemmas.Result.{err_from_is_err_and}
use Rattle.cns_batch.specs.Runs.{at}
use Rattle.cns_batch.specs.Text.{Input}
use Rattle.cns_batch.proofs.TextLemmas.{given_after, ran_other, run_may_write, said_ran, says_unopened, says_unread, within}
use Rattle.cns_batch.proofs.WorkerLemmas.{by_workers, workers_unread}
use Rattle.cns_batch.proofs.desk.run_paced.Goals as goal

pub returns-in_err-bytes-clause-says : goal.returns-in_err-bytes-clause-says
returns-in_err-bytes-clause-says g c =
    let p = err_from_is_err_and c.from_residual.result c.from_residual.ensures.1 in
    rw (p.1, p.2) (says_unread c.in_err-bytes.field-0.0 _ _ _ _ c.in_err-bytes.ensures.kind c.in_err-bytes.ensures.given)

pub returns-in-Err-clause-says : goal.returns-in-Err-clause-says
returns-in-Err-clause-says g c =
    rw c.start_fault.ensures
    (says_unopened _ c.in_ok-bytes.bytes.items _ c.in-Err.refused.fault _ _ _ _ _ c.in_ok-bytes.ensures.text c.in_ok-bytes.ensures.size c.in_ok-openings.ensures c.in-Err.ensures.err)

pub returns-clause-says : goal.returns-clause-says
returns-clause-says g c =
    let bytes = c.in_ok-bytes.bytes.items in
    let input = within bytes c.in_ok-bytes.ensures.size ∙ c.in_ok-openings.ensures in
    rw c.batch_result.ensures (bytes, c.in_ok-bytes.ensures.text, said_ran c.run_script-ran.result bytes _ _ (_, input, (c.in-Ok.system, c.in-Ok.ensures.ok)))

pub returns-clause-none : goal.returns-clause-none
returns-clause-none g c = rw c.batch_result.ensures (run_may_write _ c.run_script-ran.result)

pub returns-clause-plain : goal.returns-clause-plain
returns-clause-plain g c = λ none. absurd (c.if-workers-eq0.false none)

pub returns-clause-given : goal.returns-clause-given
returns-clause-given g c =
    given_after c.in_ok-bytes.bytes c.batch_result.result _ _ (λ is. ran_other c.run_script-ran.result (sym c.batch_result.ensures ∙ is)) c.in_ok-bytes.ensures.given

pub returns-in_err-bytes-clause-workers : goal.returns-in_err-bytes-clause-workers
returns-in_err-bytes-clause-workers g c =
    let p = err_from_is_err_and c.from_residual.result c.from_residual.ensures.1 in
    λ some. rw (p.1, p.2) (workers_unread c.in_err-bytes.field-0.0 c.args.shake _ _ c.in_err-bytes.ensures.kind)

pub returns-clause-workers : goal.returns-clause-workers
returns-clause-workers g c =
    let parts = c.in_ok-openings.field-0 in
    let input : Input = record { openings = parts.rows.openings; told = parts.rows.told.text; rows = parts.rows.trades; script = parts.script.items } in
    let bytes = c.in_ok-bytes.bytes.items in
    let q = at c.run_script-ran.new.run (g.W.Write.contents c.run_script-ran.new.writer) in
    let runs = rw (c.supply_of-supply.ensures, c.new-2.ensures, c.as_slice.ensures.value) at c.run_script-ran.ensures.runs in
    λ some. rw c.batch_result.ensures
    (bytes, c.in_ok-bytes.ensures.text, by_workers c.run_script-ran.result c.args.shake bytes input c.run_script-ran.new.supply _ _ q (within bytes c.in_ok-bytes.ensures.size ∙ c.in_ok-openings.ensures) runs c.run_script-ran.ensures.none)

use Rattle.std.proofs.Common.{Some, rules, take, ◌≡◌}
use Rattle.cns_system.specs.Begin.{opened_of}
use Rattle.cns_batch.specs.ByWorkers.{served_by_workers}
use Rattle.cns_batch.specs.Commands.{served_if_open}
use Rattle.cns_batch.specs.Run.{all_run, commands_left, run_beside}
use Rattle.cns_batch.specs.Runs.{Place, Runs, at, leaves}
use Rattle.cns_batch.proofs.ActLemmas.{leaves_fault, leaving_runs, runs_after, stops_followed}
use Rattle.cns_batch.proofs.RunLemmas.{beside_none_runs, beside_ran, beside_stops, not_begun}
use Rattle.cns_batch.proofs.at_desk.beside.Goals.{in-Err, in-Ok}
use Rattle.cns_batch.proofs.at_desk.beside.Goals as goal

pub returns-in_err-begun-clause-runs : goal.returns-in_err-begun-clause-runs
unfolding run_beside
returns-in_err-begun-clause-runs g c = leaves_fault c.from_residual.result _ c.from_residual.ensures.0 (stops_followed _ c.in_err-begun.ensures.runs)

pub returns-in_default-clause-runs : goal.returns-in_default-clause-runs
returns-in_default-clause-runs g c =
    beside_none_runs _ served_by_workers c.args.issue _ c.args.supply.now c.run_next.new.supply c.run_next.result _ _ _
    (rw (not_begun c.in_ok-begun.field-0 c.in_default.not-Some) at c.in_ok-begun.ensures.runs) c.run_next.ensures.runs

pub returns-clause-runs : goal.returns-clause-runs
returns-clause-runs g c =
    let cs = take c.args.count (commands_left c.args.commands.now) in
    let s = c.args.supply.now in
    let lot = Some (opened_of c.in-Some.begun) in
    let begun = rw c.in-Some.is at c.in_ok-begun.ensures.runs in
    let other = c.serve_while-drawn.new.other in
    let p : Place g.row.N.Denot = record { nodes = c.args.run.now.nodes; held = c.begin.new.page.text; sent = g.W.Write.contents c.begin.new.writer } in
    let ran : Runs g.N.Nodes.leads (all_run served_by_workers (Some c.in-Some.begun.lot) cs s) (leaves c.serve_while-drawn.result.1 other.7.now) p (at other.3.now (g.W.Write.contents other.8.now)) =
    c.serve_while-drawn.ensures.met.1.0 in
    let supply_back : other.7.now ≡ c.supply-1.given.0 = search rules in
    let run_back : other.3.now ≡ c.run-1.given.0 = search rules in
    let writer_back : other.8.now ≡ c.writer-1.given.0 = search rules in
    elim c.match-ran.branch [
      | in-Ok w ↦
          rw (w.run-is, w.writer-is, w.ended-is)
          (runs_after _ _ (beside_ran served_by_workers c.args.issue cs s begun (rw (supply_back, run_back, writer_back, w.in-Ok.is) at ran))
          (leaving_runs _ (served_if_open served_by_workers lot) c.supply-1.given.0 w.end-ended.result _ _ w.end-ended.ensures))
      | in-Err w ↦ rw (w.run-is, w.writer-is, w.ended-is) (beside_stops served_by_workers c.args.issue cs s begun (rw (run_back, writer_back, w.in-Err.is) at ran))
    ]

use Rattle.cns_batch.specs.Runs.{at}
use Rattle.cns_batch.specs.Text.{Input}
use Rattle.cns_batch.proofs.TextLemmas.{runs_input}
use Rattle.cns_batch.proofs.batch.run_input.Goals as goal

pub returns : goal.returns
returns g c =
    let input : Input = record { openings = c.args.rows.openings; told = c.args.rows.told.text; rows = c.args.rows.trades; script = c.args.script.now } in
    let q = at c.run_script-ran.new.run (g.W.Write.contents c.run_script-ran.new.writer) in
    let runs = rw (c.supply_of-supply.ensures, c.new.ensures) at c.run_script-ran.ensures.runs in
    rw c.batch_result.ensures
    (runs_input c.run_script-ran.result c.args.shake input _ _ _ _ c.in-Ok.system c.run_script-ran.new.supply _ q c.in-Ok.ensures.ok runs c.run_script-ran.ensures.none
    (c.into_keepers-clear.ensures.clear, c.into_keepers-clear.ensures.depot))

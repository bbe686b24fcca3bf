use Rattle.cns_batch.proofs.ActLemmas.{leaving_runs}
use Rattle.cns_batch.proofs.runner.Runner.run_plain.Goals as goal

pub returns-in-Single : goal.returns-in-Single
returns-in-Single g c = rw c.in-Single.is (leaving_runs _ _ _ c.run_event.result _ _ c.run_event.ensures)

pub returns-in-Look : goal.returns-in-Look
returns-in-Look g c = rw c.in-Look.is (leaving_runs _ _ _ c.look.result _ _ c.look.ensures)

pub returns-in-Fail : goal.returns-in-Fail
returns-in-Fail g c = rw c.in-Fail.is (leaving_runs _ _ _ c.fail.result _ _ c.fail.ensures)

pub returns-in-Report : goal.returns-in-Report
returns-in-Report g c = rw c.in-Report.is (leaving_runs _ _ _ c.report.result _ _ c.report.ensures)

pub returns-in-Skip : goal.returns-in-Skip
returns-in-Skip g c = rw c.in-Skip.is (leaving_runs _ _ _ c.refuse_line.result _ _ c.refuse_line.ensures)

pub returns-in-Beside : goal.returns-in-Beside
returns-in-Beside g c = rw c.in-Beside.is (leaving_runs _ _ _ c.refuse_line-in-Beside.result _ _ c.refuse_line-in-Beside.ensures)

pub returns-in-Bad : goal.returns-in-Bad
returns-in-Bad g c = rw c.in-Bad.is (leaving_runs _ _ _ c.refuse_line-in-Bad.result _ _ c.refuse_line-in-Bad.ensures)

pub returns-in-Allocate : goal.returns-in-Allocate
returns-in-Allocate g c = rw c.in-Allocate.is (leaving_runs _ _ _ c.refuse_line-in-Allocate.result _ _ c.refuse_line-in-Allocate.ensures)

use Rattle.std.proofs.Common.{ℕ, List, ◌++◌}
use Rattle.std.specs.Prelude.{codes}
use Rattle.std.specs.List.{flat_map}
use Rattle.cns_clearing.specs.Books.{history_of, latest_of, order_book_of}
use Rattle.cns_clearing.specs.Pools.{rows_of_pools}
use Rattle.cns_depository.specs.Balances.{balance_rows}
use Rattle.cns_netting.specs.Rows.{rows_of}
use Rattle.cns_report.specs.Report.{balance_line, cycle_report_text}
use Rattle.cns_batch.specs.Runs.{Output, output}
use Rattle.cns_batch.proofs.PrintLemmas.{breaks_after, breaks_front, prints_after, prints_fault, writes_more, texts}
use Rattle.cns_batch.proofs.page.Page.report.Goals as goal

abbrev last : List ℕ
last = codes "END\n"

pub returns-in_err-cycle_report : goal.returns-in_err-cycle_report
returns-in_err-cycle_report g c = search (texts, c.from_residual.ensures.0, rw c.clearing.ensures at c.in_err-cycle_report.ensures)

pub returns-in_err-balance_report : goal.returns-in_err-balance_report
returns-in_err-balance_report g c =
    let p : Output = output c.args.self.now (g.W.Write.contents c.args.writer.now) in
    let q : Output = output c.cycle_report.new.self (g.W.Write.contents c.cycle_report.new.writer) in
    let node = c.args.system.now.clear.clear in
    let records = node.log.records in
    let depot = c.args.system.now.depot in
    let first = cycle_report_text (latest_of records) (rows_of (history_of records)) (rows_of_pools (order_book_of records) node.lots) in
    let balances = flat_map balance_line (balance_rows depot.openings depot.log.records) in
    prints_fault (first ++ balances ++ last) c.from_residual-in_err-balance_report.result p _ c.from_residual-in_err-balance_report.ensures.0
    (breaks_front p _ (first ++ balances) last
    (breaks_after p q _ first balances (rw c.clearing.ensures at c.in_ok-cycle_report.ensures) (rw c.depository.ensures at c.in_err-balance_report.ensures)))

pub returns : goal.returns
returns g c =
    let p : Output = output c.args.self.now (g.W.Write.contents c.args.writer.now) in
    let q : Output = output c.cycle_report.new.self (g.W.Write.contents c.cycle_report.new.writer) in
    let r : Output = output c.balance_report.new.self (g.W.Write.contents c.balance_report.new.writer) in
    let node = c.args.system.now.clear.clear in
    let records = node.log.records in
    let depot = c.args.system.now.depot in
    let first = cycle_report_text (latest_of records) (rows_of (history_of records)) (rows_of_pools (order_book_of records) node.lots) in
    let balances = flat_map balance_line (balance_rows depot.openings depot.log.records) in
    prints_after c.told.result p r _ (first ++ balances) last
    (writes_more p q r first balances (rw c.clearing.ensures at c.in_ok-cycle_report.ensures) (rw c.depository.ensures at c.in_ok-balance_report.ensures)) c.told.ensures.0

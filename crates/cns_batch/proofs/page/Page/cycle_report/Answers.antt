use Rattle.std.proofs.Common.{◌++◌, ◌≡◌, ◌∙◌, ap}
use Rattle.cns_clearing.specs.Books.{history_of, order_book_of}
use Rattle.cns_clearing.specs.Pools.{rows_of_pools}
use Rattle.cns_netting.specs.Rows.{rows_of}
use Rattle.std.specs.List.{flat_map}
use Rattle.cns_report.specs.Report.{cycle_report_text, pool_line, position_line, report_head}
use Rattle.cns_batch.specs.Runs.{Output, output}
use Rattle.cns_batch.proofs.PrintLemmas.{breaks_after, breaks_front, breaks_here, prints_fault, writes_more, texts}
use Rattle.cns_batch.proofs.page.Page.cycle_report.Goals as goal

pub returns-in_err-told : goal.returns-in_err-told
unfolding cycle_report_text
returns-in_err-told g c = rw (← c.latest-latest.ensures) (search (texts, c.from_residual.ensures.0, c.in_err-told.ensures.0))

pub returns-in_err-positions : goal.returns-in_err-positions
unfolding cycle_report_text
returns-in_err-positions g c =
    let p : Output = output c.args.self.now (g.W.Write.contents c.args.writer.now) in
    let q : Output = output c.told.new.self (g.W.Write.contents c.told.new.writer) in
    let records = c.args.clearing.now.log.records in
    let head = report_head c.latest-latest.result in
    let positions = flat_map position_line (rows_of (history_of records)) in
    let pools = flat_map pool_line (rows_of_pools (order_book_of records) c.args.clearing.now.lots) in
    rw (← c.latest-latest.ensures)
    (prints_fault (head ++ positions ++ pools) c.from_residual-in_err-positions.result p q c.from_residual-in_err-positions.ensures.0
    (breaks_front p q.sent (head ++ positions) pools (breaks_after p q q.sent head positions c.in_ok-told.ensures.0 (breaks_here positions q))))

pub returns-in_err-rows : goal.returns-in_err-rows
unfolding cycle_report_text
returns-in_err-rows g c =
    let rows = c.as_slice.ensures.value ∙ c.in_ok-positions.ensures ∙ ap rows_of c.book.ensures.history in
    rw (← c.latest-latest.ensures, ← rows) (search (texts, c.from_residual-in_err-rows.ensures.0, c.in_ok-told.ensures.0, c.in_err-rows.ensures.0))

pub returns-in_err-pools : goal.returns-in_err-pools
unfolding cycle_report_text
returns-in_err-pools g c =
    let p : Output = output c.args.self.now (g.W.Write.contents c.args.writer.now) in
    let q : Output = output c.told.new.self (g.W.Write.contents c.told.new.writer) in
    let r : Output = output c.rows-2.new.self (g.W.Write.contents c.rows-2.new.writer) in
    let records = c.args.clearing.now.log.records in
    let head = report_head c.latest-latest.result in
    let positions = flat_map position_line c.as_slice.result.now in
    let pools = flat_map pool_line (rows_of_pools (order_book_of records) c.args.clearing.now.lots) in
    let rows : c.as_slice.result.now ≡ rows_of (history_of records) = c.as_slice.ensures.value ∙ c.in_ok-positions.ensures ∙ ap rows_of c.book.ensures.history in
    rw (← c.latest-latest.ensures, ← rows)
    (prints_fault (head ++ positions ++ pools) c.from_residual-in_err-pools.result p r c.from_residual-in_err-pools.ensures.0
    (breaks_after p r r.sent (head ++ positions) pools (writes_more p q r head positions c.in_ok-told.ensures.0 c.in_ok-rows.ensures.0) (breaks_here pools r)))

pub returns : goal.returns
unfolding cycle_report_text
returns g c =
    let rows = c.as_slice.ensures.value ∙ c.in_ok-positions.ensures ∙ ap rows_of c.book.ensures.history in
    rw (← c.latest-latest.ensures, ← rows, ← (c.as_slice-2.ensures ∙ c.in_ok-pools.ensures)) (search (texts, c.in_ok-told.ensures.0, c.in_ok-rows.ensures.0, c.rows-3.ensures.0))

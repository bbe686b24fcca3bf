use Rattle.std.proofs.Common.{◌≡◌, ◌∙◌, ap, rules, subst, sym, true}
use Rattle.std.proofs.lemmas.Result.{err_from_is_err_and, on_ok_weaker}
use Rattle.cns_table.proofs.RowLemmas.{wrote_all, wrote_behind}
use Rattle.cns_table.proofs.RunLemmas.{AnswersOf, ended, failed, has_place, line_refused, stands_behind}
use Rattle.cns_table.proofs.write.take_lines.Goals as goal

pub loop-number-preserved : goal.loop-number-preserved
loop-number-preserved g c =
    let start = c.args.table.now in
    let here = c.loop-number.table in
    let next = c.take_line.new.self in
    let known = g.R.Read.remaining c.args.reader.now in
    let left = g.R.Read.remaining c.loop-number.reader in
    let line = c.read_line.new.line.items in
    let inv = c.loop-number.invariant in
    let read = c.in_ok-some.ensures in
    let more : c.in_ok-some.some ≡ true = search rules in
    let took = rw c.as_slice.ensures.value at c.in_ok-take_line.ensures in (
      stands_behind start.place known left _ here.place next.place c.loop-number.number line inv.0 read.line (read.some more) read.rest (has_place here.place line c.loop-number.number took.refused) took.place,
      took.which ∙ inv.1,
      λ at.
          let was = inv.2 at in
          let wrote = took.row was.0 in
          let held = rw inv.1 at took.held in
          let row = rw inv.1 at wrote.1 in
          (wrote.0, wrote_behind start.which start.place start.held.items known left _ here.place next.place here.held.items next.held.items line _ _ _ was.1 read.line (read.some more) read.rest took.place held row),
    )

pub returns-then-not-some-clause-fault : goal.returns-then-not-some-clause-fault
returns-then-not-some-clause-fault g c =
    let here = c.loop-number.table in
    ended c.args.table.now.place (g.R.Read.remaining c.args.reader.now) (g.R.Read.remaining c.loop-number.reader) here.place c.loop-number.number c.finish.result c.loop-number.invariant.0 (c.in_ok-some.ensures.end c.if-not-some.true) c.finish.ensures.cut c.finish.ensures.kind

pub returns-then-not-some-clause-rows : goal.returns-then-not-some-clause-rows
returns-then-not-some-clause-rows g c =
    let start = c.args.table.now in
    let here = c.loop-number.table in
    on_ok_weaker c.finish.result (λ last at.
    let was = c.loop-number.invariant.2 at in
    wrote_all start.which start.place start.held.items (g.R.Read.remaining c.args.reader.now) (g.R.Read.remaining c.loop-number.reader) here.place here.held.items _ _ _ was.1 (c.in_ok-some.ensures.end c.if-not-some.true) (last was.0)) c.finish.ensures.rows

pub returns-in_err-take_line-clause-fault : goal.returns-in_err-take_line-clause-fault
returns-in_err-take_line-clause-fault g c =
    let start = c.args.table.now.place in
    let known = g.R.Read.remaining c.args.reader.now in
    let e = c.in_err-take_line.field-0.0 in
    let read = c.in_ok-some.ensures in
    let more : c.in_ok-some.some ≡ true = search rules in
    let took = rw c.as_slice.ensures.value at c.in_err-take_line.ensures in
    let answer = line_refused start known (g.R.Read.remaining c.loop-number.reader) c.loop-number.table.place c.loop-number.number c.read_line.new.line.items e c.loop-number.invariant.0 read.line (read.some more) took.kind took.refused.0 in
    let p = err_from_is_err_and c.from_residual-in_err-take_line.result c.from_residual-in_err-take_line.ensures.1 in
    subst (AnswersOf start known) (sym (p.1 ∙ ap failed p.2)) answer

use Rattle.std.proofs.Common.{◌≡◌, ◌+◌, ◌∷◌, ◌++◌, ℕ, List, length, drop, ap, sym, ◌∙◌, arith, length-append}
use Rattle.std.proofs.lemmas.List.{drop_more}
use Rattle.std.proofs.lemmas.Result.{err_from_is_err_and}
use Rattle.std.specs.List.{flat_map}
use Rattle.cns_report.proofs.row.RowsPut.put.Goals as goal

pub returns-in_err-put-clause-full : goal.returns-in_err-put-clause-full
returns-in_err-put-clause-full g c =
    let p = err_from_is_err_and c.from_residual.result c.from_residual.ensures.1 in
    let text = g.R.Put.text in
    let rows = c.args.self.now.0.now in
    let i = c.loop-row.row-index in
    let row = c.row-item.result in
    let rest = flat_map text (drop (i + 1) rows) in
    let next : flat_map text (drop i rows) ≡ text row ++ rest = ap (flat_map text) (drop_more rows i row c.loop-row-test.true ∙ ap (λ x. x ∷ drop (i + 1) rows) (sym c.row-item.is)) in
    rw p.1
    (omega (
      arith,
      c.in_err-put.ensures.full,
      c.loop-row.invariant.room,
      ap (λ (l : List ℕ). length l) c.loop-row.invariant.whole,
      ap (λ (l : List ℕ). length l) c.loop-row.invariant.begun,
      ap (λ (l : List ℕ). length l) next,
      length-append c.loop-row.draft.begun (flat_map text (drop i rows)),
      length-append c.args.draft.now.begun (flat_map text rows),
      length-append (text row) rest,
    ))

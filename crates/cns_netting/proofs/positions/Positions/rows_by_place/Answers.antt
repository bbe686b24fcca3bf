use Rattle.std.proofs.Common.{◌≡◌, Bool, ℕ, Some, false, ap, arith, drop, length, refl, ◌∙◌}
use Rattle.std.specs.Prelude.{◌==◌, sum_by}
use Rattle.std.proofs.lemmas.List.Sums.{sum_by-take-drop}
use Rattle.cns_ids.specs.declared.holding.Holding.{Holding}
use Rattle.cns_netting.specs.Positions.{issue_in, row_if, row_in_place, row_part}
use Rattle.cns_netting.specs.declared.positions.Position.{Position}
use Rattle.cns_netting.proofs.PlaceLemmas.{other_issue, rows-sum}
use Rattle.cns_netting.proofs.RowLemmas.{filter_map-sum, sum_by_entries}
use Rattle.cns_ids.proofs.ListLemmas.{sum_by-filter}
use Rattle.cns_netting.proofs.positions.Positions.rows_by_place.Goals as goal

pub returns : goal.returns
returns c = rw (← c.self.view_is) (λ h are f.
    let all = c.self.inside.all.entries in
    let order = c.self.inside.order.items in
    let len : c.len.result ≡ length order = omega arith in
    let row = row_in_place (Some c.args.issue) all in
    let weight : ℕ → ℕ = λ p. row_part f (row p) in
    let in_issue : ℕ → Bool = λ p. issue_in all c.args.issue p == c.args.issue in
    let others : (p : ℕ) → in_issue p ≡ false → weight p ≡ 0 = λ p other. ap (row_part f) (other_issue all c.args.issue p other) in
    let found = ap (sum_by weight) (rw c.deref.ensures.value at c.places_in-places.ensures) ∙ sum_by-filter weight weight in_issue (λ p same. refl) others order ∙ rows-sum (Some c.args.issue) all order c.self.invariant.places f in
    let put = ap (sum_by f) (rw c.in_ok-rows.ensures.items at c.in_ok-put_places.ensures) ∙ filter_map-sum f row c.places_in-places.result.now in
    let part : Holding × Position → ℕ = λ e. row_part f (row_if (Some c.args.issue) e.0 (Some e.1)) in
    let behind = ap (sum_by part) (rw len at c.split_at-behind.ensures.back ∙ ap (drop (length order)) c.as_slice.ensures.entries) in
    omega (arith, c.in_ok-put_rows.ensures f, put, found, behind, sum_by-take-drop part all (length order), sum_by_entries (Some c.args.issue) all h f c.as_slice.ensures.unique are))

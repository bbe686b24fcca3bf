use Rattle.std.proofs.Common.{◌≡◌, ◌≤◌, ◌∙◌, ℕ, [], None, Some, ap, arith, drop, length, subst, sym}
use Rattle.std.specs.Prelude.{sum_by}
use Rattle.std.proofs.lemmas.List.{nil_from_length, take_all}
use Rattle.std.proofs.lemmas.List.Sums.{sum_by-take-drop}
use Rattle.cns_ids.specs.declared.holding.Holding.{Holding}
use Rattle.cns_netting.specs.Positions.{AreInOrder, row_if, row_in_place, row_part}
use Rattle.cns_netting.specs.declared.positions.Position.{Position}
use Rattle.cns_netting.proofs.PlaceLemmas.{places_kept, rows-sum, rows_in_order}
use Rattle.cns_netting.proofs.RowLemmas.{filter_map-sum, rows_by_sums, sum_by_entries}
use Rattle.cns_netting.proofs.positions.Positions.rows_by.Goals as goal

pub returns-then-count-eq0 : goal.returns-then-count-eq0
returns-then-count-eq0 c = rw (← c.self.view_is) (λ h are.
    let all = c.self.inside.all.entries in
    let none : all ≡ [] = nil_from_length all (omega arith) in
    rw c.new.ensures.items
    (rows_by_sums None h [] (λ f. ap (sum_by (λ (e : Holding × Position). row_part f (row_if None e.0 (Some e.1)))) (sym none) ∙ sum_by_entries None all h f c.len-count.ensures.unique are) (λ i j d less below. absurd (omega (arith, below)))))

pub returns-then-len-count : goal.returns-then-len-count
returns-then-len-count c = rw (← c.self.view_is) (λ h are.
    let all = c.self.inside.all.entries in
    let order = c.placed.inside.order.items in
    let front = rw (← c.self.view_is, ← c.placed.view_is) at c.requires in
    let places = places_kept c.placed.inside.all.entries all order front c.placed.invariant.places in
    let found = rw (c.in_ok-rows.ensures.items, c.deref.ensures.value) at c.in_ok-put_places.ensures in
    let whole : length all ≤ length order = omega arith in
    rows_by_sums None h _
    (λ f. ap (sum_by f) found ∙ filter_map-sum f (row_in_place None all) order ∙ rows-sum None all order places f
    ∙ ap (sum_by (λ (e : Holding × Position). row_part f (row_if None e.0 (Some e.1)))) (take_all (length order) all whole)
    ∙ sum_by_entries None all h f c.len-count.ensures.unique are)
    (subst AreInOrder (sym found) (rows_in_order None all order places)))

pub returns : goal.returns
returns c = rw (← c.self.view_is) (λ h are.
    let all = c.self.inside.all.entries in
    let order = c.placed.inside.order.items in
    let front = rw (← c.self.view_is, ← c.placed.view_is) at c.requires in
    let places = places_kept c.placed.inside.all.entries all order front c.placed.invariant.places in
    let found = rw (c.in_ok-rows.ensures.items, c.deref.ensures.value) at c.in_ok-put_places.ensures in
    let len : c.len-2.result ≡ length order = omega arith in
    rows_by_sums None h c.sort_rows.new.rows.items
    (λ f.
    let part : Holding × Position → ℕ = λ e. row_part f (row_if None e.0 (Some e.1)) in
    let behind = ap (sum_by part) (rw len at c.split_at-behind.ensures.back ∙ ap (drop (length order)) c.as_slice.ensures.entries) in
    omega (
      arith,
      c.sort_rows.ensures.sums f,
      c.in_ok-put_rows.ensures f,
      ap (sum_by f) found,
      filter_map-sum f (row_in_place None all) order,
      rows-sum None all order places f,
      behind,
      sum_by-take-drop part all (length order),
      sum_by_entries None all h f c.len-count.ensures.unique are,
    ))
    c.sort_rows.ensures.order)

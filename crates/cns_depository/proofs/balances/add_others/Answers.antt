use Rattle.std.proofs.Common.{◌++◌, ◌∙◌, [], List, ap, sym}
use Rattle.std.specs.List.{cons_option, filter_map}
use Rattle.std.specs.Map.{keys_of}
use Rattle.std.specs.Map.Iter.{deref_pair}
use Rattle.std.proofs.lemmas.List.{append_assoc}
use Rattle.std.proofs.lemmas.Map.Iter.{hash_map_turn, rest_more}
use Rattle.cns_depository.specs.declared.balances.BalanceRow.{BalanceRow}
use Rattle.cns_depository.specs.declared.moved.Moved.{Moved}
use Rattle.cns_depository.specs.declared.place.Place.{Place}
use Rattle.cns_depository.specs.Places.{unopened_row}
use Rattle.cns_depository.proofs.PlaceLemmas.{place_equivalence}
use Rattle.cns_depository.proofs.RowLemmas.{one_more}
use Rattle.cns_depository.proofs.balances.add_others.Goals as goal

pub loop-place-init : goal.loop-place-init
loop-place-init c = λ p are.
    let row = unopened_row c.args.openings.now p in
    ap (λ (es : List (Place × Moved)). c.args.rows.now.items ++ filter_map row (keys_of es)) c.into_iter-place-iterator.ensures.into_iter_gives.0
    ∙ ap (λ m. c.args.rows.now.items ++ filter_map row (keys_of m.entries)) c.moved-place-items.ensures

pub loop-place-preserved : goal.loop-place-preserved
loop-place-preserved c = λ p are.
    let gives = c.into_iter-place-iterator.ensures.into_iter_gives in
    let place = c.in-Some.place.now in
    let row = unopened_row c.args.openings.now p in
    let held = c.loop-place.rows.items in
    let rest = filter_map row (keys_of c.next.new.self) in
    let first = rest_more deref_pair c.loop-place.place-iterator c.next.new.self c.next.result (c.in-Some.place, c.in-Some.moved) c.in-Some.is c.next.ensures.steps in
    let turn = hash_map_turn deref_pair c.loop-place.yielded c.into_iter-place-iterator.result c.loop-place.place-iterator c.next.new.self c.next.result
    (c.in-Some.place, c.in-Some.moved) c.loop-place.yielded_by c.in-Some.is c.next.ensures.steps place_equivalence c.moved-place-items.result.now gives.0 gives.4 in
    let found = rw c.moved-place-items.ensures at turn.1 in
    ap (λ (rows : List BalanceRow). rows ++ rest) (c.in_ok-add_unopened.ensures c.args.stock.now p are found) ∙ append_assoc held (cons_option (row place) []) rest
    ∙ ap (λ (rows : List BalanceRow). held ++ rows) (one_more (row place) rest ∙ ap (λ (es : List (Place × Moved)). filter_map row (keys_of es)) (sym first))
    ∙ c.loop-place.invariant p are

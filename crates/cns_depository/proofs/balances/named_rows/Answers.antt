use Rattle.std.proofs.Common.{◌++◌, ◌∙◌, List, ap, map, subst, sym}
use Rattle.std.specs.List.{filter_map, IsDistinct}
use Rattle.std.specs.HashMap.{keys}
use Rattle.cns_trades.specs.declared.opening.Opening.{Opening}
use Rattle.cns_depository.specs.declared.balances.BalanceRow.{BalanceRow}
use Rattle.cns_depository.specs.Balances.{balance_row}
use Rattle.cns_depository.specs.Places.{opened_place, unopened_row}
use Rattle.cns_depository.specs.Totals.{place_eq}
use Rattle.cns_depository.proofs.balances.named_rows.Goals as goal

pub returns : goal.returns
returns c = λ p are.
    let openings = c.args.openings.now in
    let row = balance_row openings p in
    let others = filter_map (unopened_row openings p) (keys c.args.stock.now.moved) in
    let same = c.as_slice-opened.ensures.openings in
    let once = c.as_slice-opened.ensures.places in
    let first = rw same at (c.in_ok-add_openings.ensures p are (subst (λ (os : List Opening). IsDistinct place_eq (map opened_place os)) (sym same) once)) in
    record {
      rows_are =
          c.in_ok-add_others.ensures p are
          ∙ ap (λ (rows : List BalanceRow). rows ++ others) (first ∙ ap (λ (rows : List BalanceRow). rows ++ filter_map row (map opened_place openings)) c.in_ok-rows.ensures.items);
      opened_once = once;
      moved_once = rw c.moved.ensures at c.len.ensures.unique;
    }

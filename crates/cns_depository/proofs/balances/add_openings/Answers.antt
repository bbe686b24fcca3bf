use Rattle.std.proofs.Common.{◌≡◌, ◌++◌, ◌∙◌, [], List, ap, map, subst, sym, take}
use Rattle.std.specs.List.{cons_option, filter_map}
use Rattle.std.proofs.lemmas.List.{append_assoc}
use Rattle.cns_trades.specs.declared.opening.Opening.{Opening}
use Rattle.cns_depository.specs.declared.account.Account.TheVariants.{Member}
use Rattle.cns_depository.specs.declared.balances.BalanceRow.{BalanceRow}
use Rattle.cns_depository.specs.Balances.{balance_row}
use Rattle.cns_depository.specs.Openings.{opening_shares}
use Rattle.cns_depository.specs.Places.{opened_place}
use Rattle.cns_depository.proofs.IndexLemmas.{opened_alone}
use Rattle.cns_depository.proofs.RowLemmas.{opened_more}
use Rattle.cns_depository.proofs.balances.add_openings.Goals as goal

pub loop-opening-preserved : goal.loop-opening-preserved
loop-opening-preserved c = λ p are distinct.
    let openings = c.args.openings.now in
    let held = c.args.rows.now.items in
    let n = c.loop-opening.opening-index in
    let o = c.opening-item.result in
    let row = balance_row openings p in
    let before = filter_map row (map opened_place (take n openings)) in
    let alone = subst (λ (x : Opening). opening_shares openings (Member x.member) x.issue ≡ x.shares) (sym c.opening-item.is) (opened_alone openings n o distinct c.loop-opening-test.true) in
    c.in_ok-add_opening.ensures openings p are alone ∙ ap (λ (rows : List BalanceRow). rows ++ cons_option (row (opened_place o)) []) (c.loop-opening.invariant p are distinct)
    ∙ append_assoc held before (cons_option (row (opened_place o)) [])
    ∙ ap (λ (rows : List BalanceRow). held ++ rows)
    (ap (λ (x : Opening). before ++ cons_option (row (opened_place x)) []) c.opening-item.is ∙ sym (opened_more row openings n o c.loop-opening-test.true))

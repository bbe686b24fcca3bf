use Rattle.std.proofs.Common.{◌≡◌, ap, arith, nat_eq, rules}
use Rattle.std.specs.HashMap.{get}
use Rattle.cns_ids.specs.Holding.{holding_at}
use Rattle.cns_netting.specs.Positions.{shares_only_at, StayNear}
use Rattle.cns_netting.specs.Totals.{longs_at, longs_in, shorts_at, shorts_in}
use Rattle.cns_netting.proofs.AddLemmas.{both_added, first_near, second_near, still_named}
use Rattle.cns_ids.proofs.ListLemmas.{puts_again}
use Rattle.cns_netting.proofs.TotalLemmas.{can_count, recounts_put, totals_added}
use Rattle.cns_netting.proofs.totals.add_trade_counted.Goals as goal

pub add-seller_was-requires : goal.add-seller_was-requires
add-seller_was-requires c =
    let t = c.args.trade.now in
    let first = rw c.shares-shares.ensures.value at c.add-buyer_was.ensures.adds in
    rw c.shares-shares.ensures.value (record {
      named = still_named first (holding_at t.issue t.seller) c.requires.named.1;
      near = second_near t.buyer t.seller t.issue t.quantity c.requires.near first;
    })

pub after-requires : goal.after-requires
after-requires c =
    let t = c.args.trade.now in
    let shares = c.shares-shares.result in
    let near : StayNear (shares_only_at t.buyer t.issue shares) (shares_only_at t.seller t.issue shares) c.args.positions.now.entries = rw c.shares-shares.ensures.value c.requires.near in
    let longs : c.in-Some.totals.now.longs ≡ longs_in c.args.totals.now t.issue = search rules in
    let shorts : c.in-Some.totals.now.shorts ≡ shorts_in c.args.totals.now t.issue = search rules in
    rw (longs, shorts)
    (can_count t.buyer t.issue shares 0 c.add-buyer_was.result c.with-buyer_is.result c.number-buyer.ensures.range c.add-buyer_was.ensures.was c.with-buyer_is.ensures c.requires.totals
    (first_near t.buyer t.seller t.issue shares near))

pub after-requires-2 : goal.after-requires-2
after-requires-2 c =
    let t = c.args.trade.now in
    let shares = c.shares-shares.result in
    let near : StayNear (shares_only_at t.buyer t.issue shares) (shares_only_at t.seller t.issue shares) c.args.positions.now.entries = rw c.shares-shares.ensures.value c.requires.near in
    let longs : c.in-Some.totals.now.longs ≡ longs_in c.args.totals.now t.issue = search rules in
    let shorts : c.in-Some.totals.now.shorts ≡ shorts_in c.args.totals.now t.issue = search rules in
    let bought = c.after.result in
    let mid = c.get_mut.follows.lender bought in
    let put = (c.get_mut.follows.holds bought).3 (search rules) in
    let counts =
    recounts_put t.issue c.add-buyer_was.result c.with-buyer_is.result bought c.args.totals.now mid put.0 (omega (arith, c.after.ensures.longs, longs)) (omega (arith, c.after.ensures.shorts, shorts)) in
    let are =
    totals_added t.buyer t.issue shares 0 c.add-buyer_was.result c.with-buyer_is.result c.number-buyer.ensures.range c.add-buyer_was.ensures.was c.with-buyer_is.ensures c.requires.totals c.add-buyer_was.ensures.adds counts in
    rw (ap longs_at put.1, ap shorts_at put.1) at
    (can_count t.seller t.issue 0 shares c.add-seller_was.result c.with-seller_is.result c.number-seller.ensures.range c.add-seller_was.ensures.was c.with-seller_is.ensures are
    (second_near t.buyer t.seller t.issue shares near c.add-buyer_was.ensures.adds))

pub returns : goal.returns
returns c =
    let t = c.args.trade.now in
    let shares = c.shares-shares.result in
    let longs : c.in-Some.totals.now.longs ≡ longs_in c.args.totals.now t.issue = search rules in
    let shorts : c.in-Some.totals.now.shorts ≡ shorts_in c.args.totals.now t.issue = search rules in
    let bought = c.after.result in
    let sold = c.after-2.result in
    let mid = c.get_mut.follows.lender bought in
    let first = (c.get_mut.follows.holds bought).3 (search rules) in
    let last = (c.get_mut.follows.holds sold).3 (search rules) in
    let counts =
    recounts_put t.issue c.add-buyer_was.result c.with-buyer_is.result bought c.args.totals.now mid first.0 (omega (arith, c.after.ensures.longs, longs)) (omega (arith, c.after.ensures.shorts, shorts)) in
    let are =
    totals_added t.buyer t.issue shares 0 c.add-buyer_was.result c.with-buyer_is.result c.number-buyer.ensures.range c.add-buyer_was.ensures.was c.with-buyer_is.ensures c.requires.totals c.add-buyer_was.ensures.adds counts in
    let then =
    recounts_put t.issue c.add-seller_was.result c.with-seller_is.result sold mid (c.get_mut.follows.lender sold)
    (puts_again t.issue bought sold (get nat_eq c.args.totals.now) (get nat_eq mid) (get nat_eq (c.get_mut.follows.lender sold)) first.0 last.0)
    (omega (arith, c.after-2.ensures.longs, ap longs_at first.1)) (omega (arith, c.after-2.ensures.shorts, ap shorts_at first.1)) in
    record {
      adds = rw c.shares-shares.ensures.value at (both_added t.buyer t.seller t.issue shares c.add-buyer_was.ensures.adds c.add-seller_was.ensures.adds);
      issues = λ i some. then.issues i (counts.issues i some);
      totals =
          totals_added t.seller t.issue 0 shares c.add-seller_was.result c.with-seller_is.result c.number-seller.ensures.range c.add-seller_was.ensures.was c.with-seller_is.ensures are c.add-seller_was.ensures.adds then;
    }

use Rattle.std.proofs.Common.{◌≤◌, ◌<◌, arith, rules, subst, sym}
use borrow.Author.Tests.{tests}
use Rattle.cns_netting.specs.declared.undue.Change.TheVariants.{Add}
use Rattle.cns_netting.specs.declared.undue.Undue.{Undue}
use Rattle.cns_netting.specs.Totals.{HasIssue}
use Rattle.cns_netting.proofs.AddLemmas.{next_added, next_later, next_named, next_near}
use Rattle.cns_netting.proofs.QueueLemmas.{later_more, settled_more}
use Rattle.cns_netting.proofs.due.add_due_counted.Goals as goal
use Rattle.cns_netting.proofs.due.add_due_counted.Goals.{else-le, then-le}

pub add_trade_counted-requires : goal.add_trade_counted-requires
add_trade_counted-requires c =
    let t = c.trade-item.result in
    let n = c.loop-trade.trade-index in
    let below = c.loop-trade-test.true in
    let due : t.settle ≤ c.args.day = search (rules, tests) in
    let before = c.loop-trade.invariant in
    record {
      named = next_named Add c.args.day c.args.undue.now n t below c.trade-item.is before.adds c.requires.named;
      issue = before.issues t.issue (subst (HasIssue c.args.totals.now) (sym c.trade-item.is) (c.requires.issues n t below));
      near = next_near Add c.args.day c.args.undue.now n t below c.trade-item.is before.adds due c.requires.near;
      totals = before.totals;
    }

pub loop-trade-preserved : goal.loop-trade-preserved
loop-trade-preserved c =
    let t = c.trade-item.result in
    let n = c.loop-trade.trade-index in
    let undue = c.args.undue.now in
    let below = c.loop-trade-test.true in
    let before = c.loop-trade.invariant in
    elim c.if-le.branch [
      | then-le w ↦
          let due : t.settle ≤ c.args.day = search (rules, tests) in
          let added = w.add_trade_counted.ensures in
          rw (w.positions-is, w.totals-is, w.count-is) (record {
            adds = next_added Add c.args.day undue n t below c.trade-item.is before.adds due added.adds;
            issues = λ i some. added.issues i (before.issues i some);
            totals = added.totals;
            count = omega (arith, before.count, settled_more c.args.day (λ (u : Undue). 1) undue n t below c.trade-item.is due);
            most = omega (arith, before.most);
          })
      | else-le w ↦
          let later : c.args.day < t.settle = search (rules, tests) in
          rw (w.positions-is, w.totals-is, w.count-is) (record {
            adds = next_later Add c.args.day undue n t below c.trade-item.is before.adds later;
            issues = before.issues;
            totals = before.totals;
            count = omega (arith, before.count, later_more c.args.day (λ (u : Undue). 1) undue n t below c.trade-item.is later);
            most = omega (arith, before.most);
          })
    ]

use Rattle.std.proofs.Common.{◌≤◌, ◌<◌, ◌∙◌, rules}
use borrow.Author.Tests.{tests}
use Rattle.cns_netting.proofs.AddLemmas.{next_added, next_later, next_named, next_near}
use Rattle.cns_netting.proofs.positions.Positions.add_due.Goals as goal
use Rattle.cns_netting.proofs.positions.Positions.add_due.Goals.{else-le, then-le}

pub add_trade-requires : goal.add_trade-requires
add_trade-requires c =
    let t = c.one-item.result in
    let n = c.loop-one.one-index in
    let due : t.settle ≤ c.args.day = search (rules, tests) in
    let adds = c.loop-one.invariant.adds in
    record {
      named = next_named c.args.change c.args.day c.args.undue.now n t c.loop-one-test.true c.one-item.is adds c.requires.named;
      near = next_near c.args.change c.args.day c.args.undue.now n t c.loop-one-test.true c.one-item.is adds due c.requires.near;
    }

pub loop-one-preserved : goal.loop-one-preserved
loop-one-preserved c =
    let t = c.one-item.result in
    let n = c.loop-one.one-index in
    let before = c.loop-one.invariant in
    elim c.if-le.branch [
      | then-le w ↦
          let due : t.settle ≤ c.args.day = search (rules, tests) in
          let done = w.add_trade.ensures in
          rw w.self-is (record {
            adds = next_added c.args.change c.args.day c.args.undue.now n t c.loop-one-test.true c.one-item.is before.adds due done.adds;
            room = done.room ∙ before.room;
          })
      | else-le w ↦
          let later : c.args.day < t.settle = search (rules, tests) in
          rw w.self-is (record {
            adds = next_later c.args.change c.args.day c.args.undue.now n t c.loop-one-test.true c.one-item.is before.adds later;
            room = before.room;
          })
    ]

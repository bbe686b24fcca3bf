use Rattle.cns_ids.specs.Holding.{holding_at}
use Rattle.cns_netting.specs.Undue.{delivering, receiving}
use Rattle.cns_netting.proofs.AddLemmas.{deliverer_named, first_near, receiver_named, second_near, still_named}
use Rattle.cns_netting.proofs.positions.Positions.add_trade.Goals as goal

pub add-requires : goal.add-requires
add-requires c =
    let t = c.args.trade.now in
    rw (c.receiver.ensures, c.shares-shares.ensures.value) (record {
      named = receiver_named c.args.change t c.args.self.now.entries c.requires.named;
      near = first_near (receiving c.args.change t) (delivering c.args.change t) t.issue t.quantity c.requires.near;
    })

pub add-requires-2 : goal.add-requires-2
add-requires-2 c =
    let t = c.args.trade.now in
    let first = rw (c.receiver.ensures, c.shares-shares.ensures.value) at c.add.ensures.adds in
    rw (c.deliverer.ensures, c.shares-shares.ensures.value) (record {
      named = still_named first (holding_at t.issue (delivering c.args.change t)) (deliverer_named c.args.change t c.args.self.now.entries c.requires.named);
      near = second_near (receiving c.args.change t) (delivering c.args.change t) t.issue t.quantity c.requires.near first;
    })

use Rattle.cns_ids.proofs.HoldingOrder.{word_cmp}
use Rattle.cns_ids.proofs.holding.HoldingOrd.cmp.Goals as goal

pub returns : goal.returns
returns c =
    let own = c.word.ensures in
    let other = c.word-2.ensures in
    let order = word_cmp c.args.self.now c.args.other.now own.issue other.issue own.member other.member in
    cc (own.word, other.word, order)

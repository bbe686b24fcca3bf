use Rattle.std.proofs.Common.{rules}
use borrow.Author.Tests.{tests}
use Rattle.std.proofs.lemmas.Iterator.{YieldsList-from_slice, items_from_collect}
use Rattle.std.proofs.lemmas.Iterator.Consumers.{YieldsList-from_filter_map}
use Rattle.std.proofs.lemmas.Result.{IfOk-weaker}
use Rattle.cns_allocate.proofs.DeliveryLemmas.{deliveries-tiles, delivery_ask}
use Rattle.cns_allocate.proofs.delivery.deliveries.Goals as goal

pub returns-clause-sum : goal.returns-clause-sum
returns-clause-sum c =
    let exact =
    items_from_collect _ c.collect.ensures.ran
    (YieldsList-from_filter_map _ (delivery_ask c.args.issue c.args.poured) (YieldsList-from_slice c.args.tickets.now cc) c.filter_map.ensures.closure (λ x r q k. search (rules, tests))) in
    IfOk-weaker c.collect.result _ _ (λ asks e tiles. rw e (deliveries-tiles c.args.issue c.args.poured c.args.tickets.now tiles)) exact

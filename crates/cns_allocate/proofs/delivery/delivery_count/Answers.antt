use Rattle.std.proofs.Common.{◌≡◌, ◌∙◌, length, not, rules}
use Rattle.std.specs.Prelude.{◌==◌, filter}
use borrow.Author.Tests.{tests}
use Rattle.std.proofs.lemmas.Iterator.{YieldsList-from_slice}
use Rattle.std.proofs.lemmas.Iterator.Consumers.{YieldsList-from_filter, count_from_yields_List}
use Rattle.cns_pool.specs.declared.ticket.Ticket.{Ticket}
use Rattle.cns_allocate.specs.Grants.{grant_of}
use Rattle.cns_allocate.proofs.DeliveryLemmas.{deliveries_counted}
use Rattle.cns_allocate.proofs.delivery.delivery_count.Goals as goal

pub returns : goal.returns
returns c issue =
    let counted : c.count.result ≡ length (filter (λ (t : Ticket). not (grant_of c.args.poured t == 0)) c.args.tickets.now) =
    count_from_yields_List _ c.count.result c.count.ensures.ran
    (YieldsList-from_filter _ (λ (t : Ticket). not (grant_of c.args.poured t == 0)) (YieldsList-from_slice c.args.tickets.now cc) c.filter.ensures.closure (λ x b q k. search (rules, tests))) in
    counted ∙ deliveries_counted issue c.args.poured c.args.tickets.now

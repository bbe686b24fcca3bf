use Rattle.std.proofs.Common.{◌≡◌, ◌∙◌, length, sym, ap, rules}
use Rattle.std.proofs.lemmas.Bool.{iff_false}
use Rattle.cns_clearing.specs.Books.{are_spent, pool_tickets}
use Rattle.cns_clearing.proofs.ClosingLemmas.{allocable_parts, asks_same, follows_allocable, spent_allocable}
use Rattle.cns_clearing.proofs.admission.may_allocate.Goals as goal

pub returns-then-not-may_follow : goal.returns-then-not-may_follow
returns-then-not-may_follow c a =
    let same = c.as_slice-tickets.ensures.value ∙ c.in_ok-list.ensures ∙ ap pool_tickets c.as_slice.ensures.list in
    iff_false c.may_follow.ensures c.if-not-may_follow.true (allocable_parts _ _ _ same a)

pub returns-then-are_spent : goal.returns-then-are_spent
returns-then-are_spent c a =
    let same = c.as_slice-tickets.ensures.value ∙ c.in_ok-list.ensures ∙ ap pool_tickets c.as_slice.ensures.list in
    let asks = c.in_ok-asks.ensures.exact ∙ asks_same c.args.allocation.now c.as_slice-tickets.result.now c.count-poured.result same c.count-poured.ensures.value in
    let spent : c.are_spent.result ≡ are_spent c.args.books.now.books.orders (length c.in_ok-asks.asks.items) = search rules in
    spent_allocable _ _ c.in_ok-asks.asks.items asks (sym spent ∙ c.if-are_spent.true) a

pub returns : goal.returns
returns c =
    let same = c.as_slice-tickets.ensures.value ∙ c.in_ok-list.ensures ∙ ap pool_tickets c.as_slice.ensures.list in
    let asks = c.in_ok-asks.ensures.exact ∙ asks_same c.args.allocation.now c.as_slice-tickets.result.now c.count-poured.result same c.count-poured.ensures.value in
    let spent : c.are_spent.result ≡ are_spent c.args.books.now.books.orders (length c.in_ok-asks.asks.items) = search rules in (
      follows_allocable _ _ _ c.in_ok-asks.asks.items same asks (c.may_follow.ensures.0 c.if-not-may_follow.false) (sym spent ∙ c.if-are_spent.false),
      record { asks = c.of_asks.ensures.asks ∙ asks; rows = c.of_asks.ensures.rows },
    )

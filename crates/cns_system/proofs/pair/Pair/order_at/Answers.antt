use Rattle.std.proofs.Common.{◌≡◌, ◌∙◌, ap, subst, sym, arith}
use Rattle.std.proofs.lemmas.Grind.{common_steps}
use Rattle.std.proofs.lemmas.Option.{gets}
use Rattle.std.specs.Prelude.{slice_get}
use Rattle.cns_movements.specs.Order.{IsNumbered, order_of}
use Rattle.cns_movements.proofs.OrderLemmas.{order_at as found_at, order_of_below}
use Rattle.cns_clearing.specs.Books.{order_book_of}
use Rattle.cns_system.proofs.pair.Pair.order_at.Goals as goal

pub returns-in_err-place : goal.returns-in_err-place
returns-in_err-place g c =
    let same = c.orders-orders.ensures.orders ∙ ap (λ b. b.orders) (c.orders.ensures.orders ∙ ap (λ n. order_book_of n.log.records) c.node.ensures ∙ ap (λ w. order_book_of w.clear.clear.log.records) c.self.view_is) in
    let numbered = subst (λ l. IsNumbered 1 l) (sym c.orders-orders.ensures.orders) c.orders-orders.ensures.lawful.numbered in
    let none = c.in_err-place.ensures in
    c.from_residual.ensures ∙ sym (order_of_below c.orders-orders.result.now 1 c.args.number numbered (omega (arith, none))) ∙ ap (λ l. order_of l c.args.number) same

pub returns : goal.returns
returns g c =
    let same = c.orders-orders.ensures.orders ∙ ap (λ b. b.orders) (c.orders.ensures.orders ∙ ap (λ n. order_book_of n.log.records) c.node.ensures ∙ ap (λ w. order_book_of w.clear.clear.log.records) c.self.view_is) in
    let numbered = subst (λ l. IsNumbered 1 l) (sym c.orders-orders.ensures.orders) c.orders-orders.ensures.lawful.numbered in
    let place = c.in_ok-place.ensures in
    let at = found_at c.orders-orders.result.now c.args.number c.in_ok-place.place numbered (omega (arith, place.0, place.1)) in
    let copied : c.copied.result ≡ slice_get c.orders-orders.result.now c.in_ok-place.place = grind (arith, common_steps, gets) in
    copied ∙ at ∙ ap (λ l. order_of l c.args.number) same

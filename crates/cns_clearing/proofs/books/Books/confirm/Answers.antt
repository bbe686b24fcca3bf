use Rattle.std.proofs.Common.{sym, rules}
use Rattle.std.specs.Int.{w128}
use mir.Val.{SFits}
use Rattle.std.proofs.lemmas.Int.{to_z-of_z}
use Rattle.cns_covers.proofs.BoundLemmas.{bounded_within}
use Rattle.cns_clearing.proofs.BooksLemmas.{settle_within}
use Rattle.cns_clearing.proofs.books.Books.confirm.Goals as goal

pub settle_reserved-requires-clause-before : goal.settle_reserved-requires-clause-before
settle_reserved-requires-clause-before c =
    let sound = rw (← c.self.view_is) at c.requires.sound in
    bounded_within c.self.inside.book.history _ c.in-Some.order.member c.in-Some.order.issue sound.netted sound.bounded

pub settle_reserved-requires-clause-after : goal.settle_reserved-requires-clause-after
settle_reserved-requires-clause-after c =
    let sound = rw (← c.self.view_is) at c.requires.sound in
    let allowed = rw (← c.self.view_is) at c.requires.allowed in
    let book = rw (← c.self.view_is) at c.orders.ensures in
    let fits : SFits w128 c.amount_of-amount.result = search rules in
    let amount = to_z-of_z w128 c.amount_of-amount.result fits in
    rw (amount, c.amount_of-amount.ensures) (settle_within _ c.args.reply.now c.in-Some.order sound allowed (sym (rw book at c.in-Some.ensures.order)))

use Rattle.std.proofs.Common.{◌≡◌, ◌∙◌, ap, reverse, rules}
use Rattle.std.specs.Int.{w128, w64}
use Rattle.std.proofs.lemmas.Int.{to_z-of_z}
use Rattle.cns_netting.specs.History.{credit_part, debit_part}
use Rattle.cns_netting.proofs.BookLemmas.{book_settled}
use Rattle.cns_netting.proofs.KeptLemmas.{kept_settled, kept_settling}
use Rattle.std.proofs.lemmas.List.{reverse-append}
use Rattle.cns_netting.proofs.book.NetBook.settle_reserved.Goals as goal

pub enter_counted-requires-clause-near : goal.enter_counted-requires-clause-near
enter_counted-requires-clause-near c =
    let same : reverse c.self.inside.entries.items ≡ c.args.self.now.history = ap (λ b. b.history) c.self.view_is in
    let amount = to_z-of_z w64 c.held-amount.result (search rules) ∙ c.held-amount.ensures ∙ to_z-of_z w128 c.args.amount c.ranges.amount in
    rw (c.brought.ensures ∙ ap credit_part amount, c.taken.ensures ∙ ap debit_part amount)
    (kept_settling c.self.invariant c.args.member c.args.issue c.args.amount (rw (← same) at c.requires.before) (rw (← same) at c.requires.after))

pub invariant_of-self : goal.invariant_of-self
invariant_of-self c =
    let h = reverse c.self.inside.entries.items in
    let same : h ≡ c.args.self.now.history = ap (λ b. b.history) c.self.view_is in
    let before = rw (← same) at c.requires.before in
    let after = rw (← same) at c.requires.after in
    let amount = to_z-of_z w64 c.held-amount.result (search rules) ∙ c.held-amount.ensures ∙ to_z-of_z w128 c.args.amount c.ranges.amount in
    let adds = rw (c.brought.ensures ∙ ap credit_part amount, c.taken.ensures ∙ ap debit_part amount) at c.enter_counted.ensures.adds in
    rw (c.write.ensures, reverse-append, amount)
    (kept_settled c.self.invariant c.args.member c.args.issue c.args.amount (book_settled h c.args.member c.args.issue c.args.amount c.self.invariant.book before after)
    adds c.enter_counted.ensures.totals c.enter_counted.ensures.issues)

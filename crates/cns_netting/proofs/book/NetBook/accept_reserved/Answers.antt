use Rattle.std.proofs.Common.{◌≡◌, ◌≤◌, ◌∷◌, ap, reverse, arith, subst}
use Rattle.std.specs.BinaryHeap.{heap_items}
use Rattle.std.specs.List.Sorted.{IsPermutation}
use Rattle.cns_netting.specs.Positions.{IsNamed}
use Rattle.cns_netting.proofs.BookLemmas.{book_accepted}
use Rattle.cns_netting.proofs.KeptLemmas.{kept_accepted}
use Rattle.std.proofs.lemmas.List.{reverse-append}
use Rattle.cns_netting.proofs.book.NetBook.accept_reserved.Goals as goal

pub invariant_of-self : goal.invariant_of-self
invariant_of-self c =
    let h = reverse c.self.inside.entries.items in
    let same : h ≡ c.args.self.now.history = ap (λ b. b.history) c.self.view_is in
    let few = rw (← same) at c.requires.few in
    let quantity : c.args.trade.now.quantity ≤ 999999999999 = omega (arith, c.shares-quantity.ensures.range.to, c.shares-quantity.ensures.value) in
    let waits = c.waiting_of-waiting.ensures in
    let names = c.name_trade.ensures in
    let issues = c.name_issue.ensures in
    rw (c.write.ensures, reverse-append)
    (kept_accepted c.self.invariant c.args.trade.now (book_accepted h c.args.trade.now c.self.invariant.book few quantity) names.adds issues.longs issues.shorts issues.still
    (subst (IsNamed c.name_trade.new.self.entries) waits names.named) issues.named
    (subst (λ t. IsPermutation (t ∷ heap_items c.self.inside.undue) (heap_items c.enter.new.undue)) waits c.enter.ensures.entered) c.enter.ensures.heap)

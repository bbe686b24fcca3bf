use Rattle.std.proofs.Common.{◌≡◌, ◌∙◌, ap, reverse}
use Rattle.cns_netting.proofs.BookLemmas.{book_netted}
use Rattle.cns_netting.proofs.KeptLemmas.{kept_near, kept_netted, netted_count}
use Rattle.std.proofs.lemmas.List.{reverse-append}
use Rattle.cns_netting.proofs.book.NetBook.net.Goals as goal

pub make_due-becoming-requires : goal.make_due-becoming-requires
make_due-becoming-requires c =
    let kept = c.self.invariant in
    record { heap = kept.heap; named = kept.named; issues = kept.named_issues; near = kept_near kept; totals = kept.totals }

pub invariant_of-self : goal.invariant_of-self
invariant_of-self c =
    let due = c.make_due-becoming.ensures in
    rw (c.write.ensures, reverse-append, c.free_unused.ensures)
    (kept_netted c.self.invariant c.args.day (book_netted (reverse c.self.inside.entries.items) c.args.day c.self.invariant.book) due.left due.adds due.totals due.named due.issues due.heap)

pub returns-clause-count : goal.returns-clause-count
returns-clause-count c =
    let same : reverse c.self.inside.entries.items ≡ c.args.self.now.history = ap (λ b. b.history) c.self.view_is ∙ c.in_ok-make_room.ensures.same in
    rw (← same) (c.make_due-becoming.ensures.count ∙ netted_count c.self.invariant c.args.day)

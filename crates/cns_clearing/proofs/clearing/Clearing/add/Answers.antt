use Rattle.std.proofs.Common.{◌≡◌, ◌∙◌, ap, rules}
use Rattle.cns_clearing.specs.Books.{books_of, with_record}
use Rattle.cns_clearing.proofs.NodeLemmas.{allowed_writable, books_sound, node_added, node_books}
use Rattle.cns_clearing.proofs.clearing.Clearing.add.Goals as goal

pub commit-requires-clause-writable : goal.commit-requires-clause-writable
commit-requires-clause-writable g c = allowed_writable (books_of c.args.self.now.log.records) c.args.entry c.requires.allowed

pub add-due-requires-clause-sound : goal.add-due-requires-clause-sound
add-due-requires-clause-sound g c = rw c.room.ensures.same (books_sound _ _ (node_books _ _ c.self.invariant))

pub invariant_of-self-2 : goal.invariant_of-self-2
invariant_of-self-2 g c =
    let entry = c.args.entry in
    let same : c.in-Some.entry.now ≡ entry = search rules in
    let up = rw (← c.self.view_is) at c.requires.up in
    let allowed = rw (← c.self.view_is) at c.requires.allowed in
    let quiet = rw (← c.self.view_is) at c.requires.quiet in
    let more = rw same at c.add-due.ensures.books in
    let lots = rw same at c.follow.ensures in
    node_added entry _ _ _ _ c.self.invariant up allowed quiet c.in_ok-commit.ensures.fits
    (more ∙ ap (with_record entry) c.room.ensures.same) c.in_ok-commit.ensures.leaves lots

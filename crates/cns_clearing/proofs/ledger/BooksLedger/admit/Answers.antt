use Rattle.std.proofs.Common.{◌∙◌, ap}
use Rattle.cns_clearing.specs.Books.{with_record}
use Rattle.cns_clearing.proofs.NodeLemmas.{books_more, books_sound}
use Rattle.cns_clearing.proofs.ledger.BooksLedger.admit.Goals as goal

pub admitted-requires : goal.admitted-requires
admitted-requires c = books_sound _ _ c.requires.comes

pub add-requires-clause-sound : goal.add-requires-clause-sound
add-requires-clause-sound c = rw (c.in_ok-room.ensures.same, c.in_ok-effects.ensures.same) (books_sound _ _ c.requires.comes)

pub returns : goal.returns
returns c =
    let entry = c.args.entry.now in
    let admitted = rw c.in-Some.is at c.in_ok-effects.ensures.admitted in
    let are = books_more _ _ entry c.requires.comes admitted.0 c.requires.fits in
    let same = c.add.ensures.books ∙ ap (with_record entry) (c.in_ok-room.ensures.same ∙ c.in_ok-effects.ensures.same) in
    (rw c.requires.comes.books_are at admitted.0, rw same are)

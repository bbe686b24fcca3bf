-- What the records of a clearing node make of its books.
use Rattle.std.proofs.Common.{◌≡◌, ◌+◌, ◌≤◌, false, List, [], ◌∷◌, ◌++◌, length, Some, sym, ◌∙◌, arith}
use Rattle.std.specs.Prelude.{◌+ℤ◌}
use Rattle.std.proofs.lemmas.Bool.Decides.{nat_tests}
use Rattle.std.proofs.lemmas.Option.{same_Some}
use Rattle.cns_trades.proofs.ListLemmas.{new-few}
use Rattle.cns_netting.specs.Book.{IsWithin, IsBook}
use Rattle.cns_netting.specs.History.{accepted, position_of}
use Rattle.cns_netting.specs.declared.entry.NetEntry.TheVariants.{Netted}
use Rattle.cns_netting.specs.declared.position.PositionRow.{PositionRow}
use Rattle.cns_netting.proofs.BookLemmas.{book_accepted, book_empty, book_netted, book_settled}
use Rattle.cns_netting.proofs.IssueLemmas.{rows_stand_by_issue}
use Rattle.std.specs.List.Sorted.{IsNonDecreasingBy}
use Rattle.cns_movements.specs.Book.{Orders, IsOrderBook}
use Rattle.cns_movements.specs.Confirm.{confirm_answer}
use Rattle.cns_movements.specs.Order.{order_of}
use Rattle.cns_movements.specs.declared.book.Confirm.TheVariants as answers
use Rattle.cns_movements.specs.declared.order.Ask.{Ask}
use Rattle.cns_movements.specs.declared.order.Order.{Order}
use Rattle.cns_movements.specs.declared.order.Reply.{Reply}
use Rattle.cns_movements.proofs.BookLemmas.{with_asks_lawful, with_reply_lawful}
use Rattle.cns_movements.proofs.ConfirmLemmas.{taken_from_done}
use Rattle.cns_allocate.proofs.DeliveryLemmas.{deliveries_once, deliveries_within}
use Rattle.cns_covers.specs.Bounds.{AreBounded, AreDeliverable, amount_of, want_in}
use Rattle.cns_covers.proofs.BoundLemmas.{bounded_accepted, bounded_confirmed, bounded_cycle, bounded_delivered, bounded_empty, bounded_within, confirmed_within}
use Rattle.cns_records.specs.Clear.{HasRanges, AreWritable}
use Rattle.cns_records.specs.declared.allocation.Allocation.{Allocation}
use Rattle.cns_records.specs.declared.clear_record.ClearRecord.{ClearRecord}
use Rattle.cns_records.specs.declared.clear_record.ClearRecord.TheVariants.{Accept, Cycle, Allocate, Confirm}
use Rattle.cns_clearing.specs.Books.{Books, Allows, AreSound, IsAllocable, IsLawful, are_spent, books_of, covers_on, deliveries_in, pool_tickets, with_record}

-- a position stays within 10^18 of 0 where a first confirmation brings its shares
pub settle_within : (b : Books) (r : Reply) (o : Order) → AreSound b → confirm_answer b.orders r ≡ answers.Done → order_of b.orders.orders r.number ≡ Some o
    → IsWithin (position_of b.history o.member o.issue +ℤ amount_of o.kind r.moved)
settle_within b r o sound done found =
    let taken = taken_from_done b.orders r done in
    let same : taken.order ≡ o = same_Some taken.order o (sym taken.found ∙ found) in
    confirmed_within b.history b.orders r o sound.ordered sound.bounded found taken.first (rw (← same) taken.within) sound.netted

-- numbers that are not spent suffice
pub numbers_suffice : (book : Orders) (asks : List Ask) → length book.orders ≤ 1000000 → are_spent book (length asks) ≡ false → length book.orders + length asks ≤ 1000000
numbers_suffice book asks few enough = grind (arith, nat_tests)

-- the bounds of books, and the order of their orders
pub record AreOrderly (b : Books) : Type 0 where
  pub bounded : AreBounded b.history b.orders
  pub ordered : IsOrderBook b.orders

-- the deliveries of an allocation that may follow
allocable_asks : (b : Books) (a : Allocation) → IsAllocable b a → AreDeliverable b.history b.orders a.issue (deliveries_in a)
allocable_asks b a allocable = record {
  each = deliveries_within a.issue a.poured (pool_tickets a.drawn) (λ m. want_in b.history b.orders m a.issue) allocable.within;
  once = deliveries_once a.issue a.poured (pool_tickets a.drawn) allocable.once;
}

-- they stay so with one more record
orderly_more : (r : ClearRecord) (b : Books) → AreOrderly b → Allows b r → AreOrderly (with_record r b)
orderly_more (Accept t) b orderly allowed = record { bounded = bounded_accepted b.history b.orders t orderly.bounded; ordered = orderly.ordered }
orderly_more (Cycle id) b orderly allowed = record {
  bounded = bounded_cycle b.history b.orders b.exemptions (Some id) id.day orderly.ordered orderly.bounded;
  ordered = with_asks_lawful b.orders (Some id) (covers_on b id.day) orderly.ordered (numbers_suffice b.orders (covers_on b id.day) orderly.ordered.few allowed.1);
}
orderly_more (Allocate a) b orderly allowed = record {
  bounded = bounded_delivered b.history b.orders b.latest a.issue (deliveries_in a) orderly.ordered orderly.bounded (allocable_asks b a allowed);
  ordered = with_asks_lawful b.orders b.latest (deliveries_in a) orderly.ordered (numbers_suffice b.orders (deliveries_in a) orderly.ordered.few allowed.numbers);
}
orderly_more (Confirm r) b orderly allowed =
    let taken = taken_from_done b.orders r allowed in
    record {
      bounded = rw taken.found (bounded_confirmed b.history b.orders r taken.order orderly.ordered orderly.bounded taken.found taken.first taken.within);
      ordered = with_reply_lawful b.orders r taken.order orderly.ordered taken.found taken.first taken.within;
    }
orderly_more _ b orderly allowed = record { bounded = orderly.bounded; ordered = orderly.ordered }

-- the orders of lawful records keep the positions small, and their orders are numbered and confirmed once
pub lawful_bounded : (c : List ClearRecord) → IsLawful c → AreOrderly (books_of c)
unfolding books_of
lawful_bounded [] lawful = record { bounded = bounded_empty; ordered = record { numbered = tt; few = omega arith; known = tt; once = tt } }
lawful_bounded (r ∷ c) lawful = orderly_more r (books_of c) (lawful_bounded c lawful.1) lawful.0

-- the history after a record that may follow
netted_more : (r : ClearRecord) (b : Books) → AreSound b → Allows b r → HasRanges r → IsBook (with_record r b).history
netted_more (Accept t) b sound allowed ranges = book_accepted b.history t sound.netted (new-few (accepted b.history) t allowed) ranges.quantity.to
netted_more (Cycle id) b sound allowed ranges = book_netted b.history id.day sound.netted
netted_more (Confirm r) b sound allowed ranges =
    let taken = taken_from_done b.orders r allowed in
    let o = taken.order in
    let before = bounded_within b.history b.orders o.member o.issue sound.netted sound.bounded in
    let after = confirmed_within b.history b.orders r o sound.ordered sound.bounded taken.found taken.first taken.within sound.netted in
    rw taken.found (book_settled b.history o.member o.issue (amount_of o.kind r.moved) sound.netted before after)
netted_more _ b sound allowed ranges = sound.netted

-- the positions after the latest cycle and after the one before it stand by issue
abbrev StandByIssue : List PositionRow → Type 0
StandByIssue rows = IsNonDecreasingBy (λ (row : PositionRow). row.issue) rows

-- so they do after any records
listed : (c : List ClearRecord) → StandByIssue (books_of c).recent × StandByIssue (books_of c).previous
unfolding books_of
listed [] = (λ i j d le below. absurd (omega (arith, below)), λ i j d le below. absurd (omega (arith, below)))
listed (Cycle id ∷ c) = (rows_stand_by_issue (Netted id.day ∷ (books_of c).history), (listed c).0)
listed (_ ∷ c) = listed c

-- the books of lawful records are sound
pub lawful_sound : (c : List ClearRecord) → IsLawful c → AreWritable c → AreSound (books_of c)
unfolding books_of
lawful_sound [] lawful fits = record { netted = book_empty; bounded = (lawful_bounded [] lawful).bounded; ordered = (lawful_bounded [] lawful).ordered; listed = (listed []).1 }
lawful_sound (r ∷ c) lawful fits =
    let orderly = lawful_bounded (r ∷ c) lawful in
    let netted = netted_more r (books_of c) (lawful_sound c lawful.1 fits.1) lawful.0 fits.0.0 in
    record { netted = netted; bounded = orderly.bounded; ordered = orderly.ordered; listed = (listed (r ∷ c)).1 }

-- records are lawful from the oldest one on
pub lawful_before : (later c : List ClearRecord) → IsLawful (later ++ c) → IsLawful c
lawful_before [] c lawful = lawful
lawful_before (r ∷ later) c lawful = lawful_before later c lawful.1

-- and so they are writable
pub writable_before : (later c : List ClearRecord) → AreWritable (later ++ c) → AreWritable c
writable_before [] c fits = fits
writable_before (r ∷ later) c fits = writable_before later c fits.1

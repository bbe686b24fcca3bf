-- The agreement of two nodes, tested record by record.
use Rattle.std.proofs.Common.{◌≡◌, ◌<◌, ◌+◌, ◌∙◌, ℕ, List, [], ◌∷◌, Option, Some, None, ap, get_or, length, reverse, subst, sym, take}
use Rattle.std.specs.Prelude.{All, IfSome}
use Rattle.std.specs.List.{cons_option}
use Rattle.std.proofs.lemmas.List.{reverse-reverse}
use Rattle.std.proofs.lemmas.List.Elements.{All-cons, All-head, All-more, All-nil, All-tail}
use Rattle.std.proofs.lemmas.List.Sorted.{All-permutation, IsPermutation-reverse}
use Rattle.cns_movements.specs.Book.{Orders}
use Rattle.cns_movements.specs.declared.order.Reply.{Reply}
use Rattle.cns_records.specs.declared.clear_record.ClearRecord.{ClearRecord}
use Rattle.cns_records.specs.declared.dep_record.DepRecord.{DepRecord}
use Rattle.cns_clearing.specs.Books.{order_book_of}
use Rattle.cns_depository.specs.declared.movement.Movement.{Movement}
use Rattle.cns_depository.specs.Stock.{executed_in, executed_of}
use Rattle.cns_system.specs.Agreement.{Agree, IsExecuted, IsOrdered}

module _ {X : Type 0} (P : X → Type 0) where
  -- an element of a list of which something holds throughout
  pub all_here : (xs : List X) (i : ℕ) (x : X) → i < length xs → x ≡ get_or xs i x → All P xs → P x
  all_here xs i x within is all = subst P (sym is) (all i x within)

  -- one element more of which it holds
  pub all_next : (xs : List X) (i : ℕ) (x : X) → i < length xs → x ≡ get_or xs i x → All P (take i xs) → P x → All P (take (i + 1) xs)
  all_next xs i x within is all here = All-more P xs i x within all (subst P is here)

  -- the same in the other order
  pub all_turned : (xs : List X) → All P xs → All P (reverse xs)
  all_turned xs all = All-permutation P xs (reverse xs) (IsPermutation-reverse xs) all

  pub all_turned_back : (xs : List X) → All P (reverse xs) → All P xs
  all_turned_back xs all = subst (All P) (reverse-reverse xs) (all_turned (reverse xs) all)

-- what holds of each movement that was executed holds of what each record executed
module _ (P : Movement → Type 0) where
  abbrev pub OfRecord : DepRecord → Type 0
  OfRecord e = IfSome (executed_in e) P

  pub all_executed : (p : List DepRecord) → All OfRecord p → All P (executed_of p)
  all_executed [] all = All-nil P
  all_executed (e ∷ p) all = by (executed_in e) (All-head OfRecord e p all) (all_executed p (All-tail OfRecord e p all))
    where
      by : (x : Option Movement) → IfSome x P → All P (executed_of p) → All P (cons_option x (executed_of p))
      by None here rest = rest
      by (Some m) here rest = All-cons P m (executed_of p) here rest

  pub all_records : (p : List DepRecord) → All P (executed_of p) → All OfRecord p
  all_records [] all = All-nil OfRecord
  all_records (e ∷ p) all =
      let parts = by (executed_in e) all in All-cons OfRecord e p parts.0 (all_records p parts.1)
    where
      by : (x : Option Movement) → All P (cons_option x (executed_of p)) → IfSome x P × All P (executed_of p)
      by None all = (tt, all)
      by (Some m) all = (All-head P m (executed_of p) all, All-tail P m (executed_of p) all)

-- two nodes agree where each of their lists, the oldest first, passes
module _ (c : List ClearRecord) (p : List DepRecord) (book : Orders) (records : List DepRecord) (replies : List Reply)
    (book_is : book ≡ order_book_of c) (records_are : reverse records ≡ p) (replies_are : reverse replies ≡ book.replies) where
  pub agree_from : All (OfRecord (IsOrdered book.orders)) records → All (IsExecuted (executed_of p)) replies → Agree c p
  agree_from ordered executed = record {
    executed =
        subst (λ (b : Orders). All (IsOrdered b.orders) (executed_of p)) book_is
        (all_executed (IsOrdered book.orders) p
        (subst (All (OfRecord (IsOrdered book.orders))) records_are (all_turned (OfRecord (IsOrdered book.orders)) records ordered)));
    confirmed = subst (All (IsExecuted (executed_of p))) (replies_are ∙ ap (λ (b : Orders). b.replies) book_is) (all_turned (IsExecuted (executed_of p)) replies executed);
  }

  pub ordered_from : Agree c p → All (OfRecord (IsOrdered book.orders)) records
  ordered_from agree =
      all_turned_back (OfRecord (IsOrdered book.orders)) records
      (subst (All (OfRecord (IsOrdered book.orders))) (sym records_are)
      (all_records (IsOrdered book.orders) p (subst (λ (b : Orders). All (IsOrdered b.orders) (executed_of p)) (sym book_is) agree.executed)))

  pub executed_from : Agree c p → All (IsExecuted (executed_of p)) replies
  executed_from agree =
      all_turned_back (IsExecuted (executed_of p)) replies
      (subst (All (IsExecuted (executed_of p))) (sym (replies_are ∙ ap (λ (b : Orders). b.replies) book_is)) agree.confirmed)

-- What each answer to a confirmation says of the book.
use Rattle.std.proofs.Common.{◌≡◌, ℕ, ◌≤◌, cond, eqb, ltb, Option, Some, None, refl, arith}
use Rattle.std.proofs.lemmas.Bool.Decides.{nat_tests}
use Rattle.cns_movements.specs.declared.order.Order.{Order}
use Rattle.cns_movements.specs.declared.order.Reply.{Reply}
use Rattle.cns_movements.specs.Order.{order_of, moved_of}
use Rattle.cns_movements.specs.Book.{Orders}
use Rattle.cns_movements.specs.Confirm.{answer_by, confirm_answer}
use Rattle.cns_movements.specs.declared.book.Confirm.TheVariants.{Done, Again, Conflict, TooMuch}

-- a confirmation that a book takes: the first one of an order, not above what that asked for
pub record IsTaken (book : Orders) (reply : Reply) : Type 0 where
  pub order : Order
  pub found : order_of book.orders reply.number ≡ Some order
  pub first : moved_of book.replies reply.number ≡ None
  pub within : reply.moved ≤ order.asked

-- a second confirmation is not answered so, and a first one only within what was asked
two_done : (before moved : ℕ) → cond (eqb before moved) Again Conflict ≡ Done → ⊥
two_done before moved e = grind arith

one_done : (asked moved : ℕ) → cond (ltb asked moved) TooMuch Done ≡ Done → moved ≤ asked
one_done asked moved e = grind (arith, nat_tests)

-- `Done` by the two look-ups
done_by : (book : Orders) (r : Reply) (o : Option Order) (m : Option ℕ) → order_of book.orders r.number ≡ o → moved_of book.replies r.number ≡ m
    → answer_by o m r.moved ≡ Done → IsTaken book r
done_by book r None m found confirmed e = absurd (cc e)
done_by book r (Some o) (Some before) found confirmed e = absurd (two_done before r.moved e)
done_by book r (Some o) None found confirmed e = record { order = o; found = found; first = confirmed; within = one_done o.asked r.moved e }

-- what `Done` says
pub taken_from_done : (book : Orders) (r : Reply) → confirm_answer book r ≡ Done → IsTaken book r
taken_from_done book r e = done_by book r (order_of book.orders r.number) (moved_of book.replies r.number) refl refl e

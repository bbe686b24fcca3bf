-- The answer to a confirmation, and what it leaves (this project's own rule).
use Rattle.std.specs.Prelude.{ℕ, ◌==◌, nat_lt, Option, Some, None, if◌then◌else◌}
use Rattle.cns_movements.specs.declared.order.Order.{Order}
use Rattle.cns_movements.specs.declared.order.Reply.{Reply}
use Rattle.cns_movements.specs.Order.{order_of, moved_of}
use Rattle.cns_movements.specs.Book.{Orders, with_reply}
use Rattle.cns_movements.specs.declared.book.Confirm.{Confirm}
use Rattle.cns_movements.specs.declared.book.Confirm.TheVariants.{Done, Again, UnknownMove, Conflict, TooMuch}

-- by the order of the number, what is confirmed of it, and what the confirmation says that it moved
abbrev pub answer_by : Option Order → Option ℕ → ℕ → Confirm
answer_by None confirmed moved = UnknownMove
answer_by (Some o) (Some before) moved = if before == moved then Again else Conflict
answer_by (Some o) None moved = if nat_lt o.asked moved then TooMuch else Done

-- the answer of a book to a confirmation
abbrev pub confirm_answer : Orders → Reply → Confirm
confirm_answer book reply = answer_by (order_of book.orders reply.number) (moved_of book.replies reply.number) reply.moved

-- the book after that answer: only `Done` adds the confirmation
abbrev pub after_reply : Confirm → Orders → Reply → Orders
after_reply Done book reply = with_reply book reply
after_reply Again book reply = book
after_reply UnknownMove book reply = book
after_reply Conflict book reply = book
after_reply TooMuch book reply = book

-- how many confirmations an answer adds
abbrev pub added_by : Confirm → ℕ
added_by Done = 1
added_by Again = 0
added_by UnknownMove = 0
added_by Conflict = 0
added_by TooMuch = 0

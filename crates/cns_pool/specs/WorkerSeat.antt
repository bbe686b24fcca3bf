-- A worker's seat as contracts see it, and what the calls of a cell leave of it (this project's own rules).
use Rattle.std.specs.Prelude.{◌≡◌, ℕ, ◌+◌, ◌-◌, ◌≤◌, true, false, List, [], ◌∷◌, ◌++◌, length}
pub use Rattle.atomic_table.specs.Seated.{TableId}
use Rattle.cns_pool.specs.declared.ticket.Ticket.{Ticket}
use Rattle.cns_pool.specs.declared.ticket.Reserved.{Reserved}
use Rattle.cns_pool.specs.declared.ticket.Reserved.TheVariants.{Ticket as Drawn, Sealed}
use Rattle.cns_pool.specs.declared.pool.Asked.{Asked}
use Rattle.cns_pool.specs.Pool.{asked_sum}
use Rattle.cns_pool.specs.Seen.{Seen, nothing_seen, both_seen}

-- its cell and its tickets; the shares that it may still ask and the calls that it may still make; the calls that it and the seats joined
-- into it have made, and those given at the opening; for how many calls and tickets it has room beside its own; and what it has seen
pub record WorkerState : Type 0 where
  pub cell : TableId
  pub tickets : List Ticket
  pub budget : ℕ
  pub calls : ℕ
  pub made : ℕ
  pub given : ℕ
  pub room : ℕ
  pub seen : Seen

-- the seat of a new cell
abbrev pub new_worker : TableId → ℕ → ℕ → WorkerState
new_worker cell budget calls = record {
  cell = cell;
  tickets = [];
  budget = budget;
  calls = calls;
  made = 0;
  given = calls;
  room = 0;
  seen = nothing_seen;
}

-- the calls given at the opening, less those made and left at this seat: those that other seats have made or may make
abbrev pub calls_out : WorkerState → ℕ
calls_out worker = worker.given - (worker.made + worker.calls)

-- each of the tickets has a share, and ends at n or below
abbrev pub EndWithin : ℕ → List Ticket → Type 0
EndWithin n [] = Unit {0}
EndWithin n (ticket ∷ tickets) = (1 ≤ ticket.asked) × (ticket.start + ticket.asked ≤ n) × EndWithin n tickets

-- the seat after it drew a ticket
abbrev pub after_ticket : WorkerState → Ticket → WorkerState
after_ticket worker ticket = record worker { tickets = worker.tickets ++ ticket ∷ []; budget = worker.budget - ticket.asked; calls = worker.calls - 1; made = worker.made + 1; seen = record worker.seen { asked = ticket.start + ticket.asked } }

-- the seat after a reserve of these shares met the seal, and left so many shares asked
abbrev pub after_sealed : WorkerState → ℕ → ℕ → WorkerState
after_sealed worker shares asked = record worker { budget = worker.budget - shares; calls = worker.calls - 1; made = worker.made + 1; seen = record worker.seen { asked = asked; sealed = true } }

-- a reserve that draws a ticket: it starts at or above the ends of the seat's tickets and all that the seat has seen, and at the sum of
-- the seat's tickets where no call is out; the seat has not seen the seal
pub record DrawsTicket (old : WorkerState) (member shares : ℕ) (new : WorkerState) (ticket : Ticket) : Type 0 where
  pub holder : ticket.member ≡ member
  pub size : ticket.asked ≡ shares
  pub start : old.seen.asked ≤ ticket.start
  pub ends : EndWithin ticket.start old.tickets
  pub alone : calls_out old ≡ 0 → ticket.start ≡ asked_sum old.tickets
  pub unsealed : old.seen.sealed ≡ false
  pub after : new ≡ after_ticket old ticket

-- a reserve that meets the seal
pub record MeetsSeal (old : WorkerState) (shares : ℕ) (new : WorkerState) : Type 0 where
  pub asked : ℕ
  pub least : old.seen.asked + shares ≤ asked
  pub after : new ≡ after_sealed old shares asked

-- what a reserve answers, and leaves
abbrev pub Reserves : WorkerState → ℕ → ℕ → WorkerState → Reserved → Type 0
Reserves old member shares new (Drawn ticket) = DrawsTicket old member shares new ticket
Reserves old member shares new Sealed = MeetsSeal old shares new

-- the seat after a part of its budget and its calls was split off
abbrev pub after_split : WorkerState → ℕ → ℕ → WorkerState
after_split worker budget calls = record worker { budget = worker.budget - budget; calls = worker.calls - calls; room = worker.room + calls }

-- the new seat that has this part
abbrev pub split_off : WorkerState → ℕ → ℕ → WorkerState
split_off worker budget calls = record worker { tickets = []; budget = budget; calls = calls; made = 0; room = 0 }

-- the room that a seat takes where it is joined into another one
abbrev pub room_taken : WorkerState → ℕ
room_taken worker = worker.calls + length worker.tickets

-- the seat after another one was joined into it and it saw so many poured shares
abbrev pub after_join : WorkerState → WorkerState → ℕ → WorkerState
after_join worker other poured = record worker {
  tickets = worker.tickets ++ other.tickets;
  budget = worker.budget + other.budget;
  calls = worker.calls + other.calls;
  made = worker.made + other.made;
  room = worker.room - room_taken other;
  seen = record (both_seen worker.seen other.seen) { poured = poured };
}

-- a join that was made, with the poured shares that it saw; all tickets end within what the seat has seen then
pub record Joins (old other new : WorkerState) : Type 0 where
  pub poured : ℕ
  pub least : old.seen.poured ≤ poured
  pub other_least : other.seen.poured ≤ poured
  pub after : new ≡ after_join old other poured
  pub ends : EndWithin new.seen.asked new.tickets

-- what a worker's look at the asked shares shows: its tickets end within them; where no call is out they are its tickets' shares, and of a
-- sealed cell at least these
pub record ShowsAsked (worker : WorkerState) (asked : Asked) : Type 0 where
  pub ends : EndWithin asked.sum worker.tickets
  pub exact : calls_out worker ≡ 0 → asked.sealed ≡ false → asked.sum ≡ asked_sum worker.tickets
  pub least : calls_out worker ≡ 0 → asked_sum worker.tickets ≤ asked.sum

-- the seat once it has seen this
abbrev pub worker_seeing : WorkerState → Seen → WorkerState
worker_seeing worker seen = record worker { seen = seen }

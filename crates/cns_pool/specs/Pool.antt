-- A pool as its definition has it, and what its steps leave (this project's own rules).
use Rattle.std.specs.Prelude.{ℕ, ◌+◌, ◌-◌, ◌≤◌, Bool, true, false, List, [], ◌∷◌, ◌++◌, map, sum_by, if◌then◌else◌}
use Rattle.cns_pool.specs.declared.ticket.Ticket.{Ticket}
use Rattle.cns_pool.specs.declared.ticket.Reserved.{Reserved}
use Rattle.cns_pool.specs.declared.ticket.Reserved.TheVariants.{Ticket as Drawn, Sealed}
use Rattle.cns_pool.specs.declared.pool.TheConstants.{MAX_POOL}
use Rattle.cns_pool.specs.Tiles.{Interval, AreChained}

-- the tickets in the order in which they were drawn, the shares poured, and whether it is sealed; and the shares that may still be
-- asked and poured, and how many reserves may still be made
pub record Pooled : Type 0 where
  pub tickets : List Ticket
  pub poured : ℕ
  pub sealed : Bool
  pub budget : ℕ
  pub pour_room : ℕ
  pub calls : ℕ

-- the pool of which nothing was asked, and into which nothing was poured
abbrev pub new_pool : ℕ → ℕ → ℕ → Pooled
new_pool budget pours calls = record { tickets = []; poured = 0; sealed = false; budget = budget; pour_room = pours; calls = calls }

-- the shares of a ticket, and of each of the tickets
abbrev pub interval_of : Ticket → Interval
interval_of ticket = (ticket.start, ticket.asked)

abbrev pub intervals_of : List Ticket → List Interval
intervals_of tickets = map interval_of tickets

-- how many shares the tickets have together
abbrev pub asked_sum : List Ticket → ℕ
asked_sum tickets = sum_by (λ (ticket : Ticket). ticket.asked) tickets

-- the ticket that is drawn next
abbrev pub next_ticket : Pooled → ℕ → ℕ → Ticket
next_ticket pool member asked = record { member = member; start = asked_sum pool.tickets; asked = asked }

-- the answer to a reserve: the next ticket, where the pool is not sealed
abbrev pub reserve_answer : Pooled → ℕ → ℕ → Reserved
reserve_answer pool member asked = if pool.sealed then Sealed else Drawn (next_ticket pool member asked)

-- the tickets after a reserve
abbrev pub tickets_after : Pooled → ℕ → ℕ → List Ticket
tickets_after pool member asked = if pool.sealed then pool.tickets else pool.tickets ++ next_ticket pool member asked ∷ []

-- the pool after a reserve, which uses up its part of the budget and one call, sealed or not
abbrev pub after_reserve : Pooled → ℕ → ℕ → Pooled
after_reserve pool member asked = record pool { tickets = tickets_after pool member asked; budget = pool.budget - asked; calls = pool.calls - 1 }

-- the pool after shares were poured into it
abbrev pub after_pour : Pooled → ℕ → Pooled
after_pour pool shares = record pool { poured = pool.poured + shares; pour_room = pool.pour_room - shares }

-- the pool after a seal
abbrev pub after_seal : Pooled → Pooled
after_seal pool = record pool { sealed = true }

-- each of the tickets has a share
abbrev pub HaveShares : List Ticket → Type 0
HaveShares [] = Unit {0}
HaveShares (ticket ∷ tickets) = (1 ≤ ticket.asked) × HaveShares tickets

-- the tickets have shares and stand end to end from 0, and neither what is asked nor what is poured passes its limit
pub record IsPool (pool : Pooled) : Type 0 where
  pub chained : AreChained 0 (intervals_of pool.tickets)
  pub shares : HaveShares pool.tickets
  pub asked : asked_sum pool.tickets + pool.budget ≤ MAX_POOL
  pub poured : pool.poured + pool.pour_room ≤ MAX_POOL

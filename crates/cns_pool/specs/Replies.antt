-- Tickets that a pool of one thread would have drawn (this project's own rule).
use Rattle.std.specs.Prelude.{◌≡◌, List, [], ◌∷◌, length, IsPermutation}
use Rattle.cns_pool.specs.declared.ticket.Ticket.{Ticket}
use Rattle.cns_pool.specs.declared.ticket.Reserved.TheVariants.{Ticket as Drawn}
use Rattle.cns_pool.specs.Pool.{Pooled, new_pool, asked_sum, reserve_answer, after_reserve}

-- the tickets are what the pool answers where the same reserves are made one after another
abbrev pub AreReplies : Pooled → List Ticket → Type 0
AreReplies pool [] = Unit {0}
AreReplies pool (ticket ∷ tickets) = (reserve_answer pool ticket.member ticket.asked ≡ Drawn ticket) × AreReplies (after_reserve pool ticket.member ticket.asked) tickets

-- in one order, which is that of their starts, the tickets are what a new pool with just the budget and the calls for them answers
pub record AreDrawn (tickets : List Ticket) : Type 0 where
  pub drawn : List Ticket
  pub same : IsPermutation tickets drawn
  pub replies : AreReplies (new_pool (asked_sum tickets) 0 (length tickets)) drawn

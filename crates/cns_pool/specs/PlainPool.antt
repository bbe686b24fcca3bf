-- The pool of one thread: what it is as a pool, and what holds of it.
use Rattle.std.specs.Prelude.{◌≡◌, ℕ, ◌+◌, ◌≤◌, length}
use Rattle.cns_pool.specs.declared.plain_pool.PlainPool.TheInside.{Inside}
use Rattle.cns_pool.specs.Pool.{Pooled, asked_sum, IsPool}

-- the pool that is stored
abbrev pub pooled_of : Inside → Pooled
pooled_of p = record { tickets = p.tickets.items; poured = p.poured; sealed = p.sealed; budget = p.budget; pour_room = p.pour_room; calls = p.calls }

-- a lawful pool, the sum of its tickets, and a capacity for the tickets of all reserves that are left
pub record IsStored (pool : Pooled) (asked capacity : ℕ) : Type 0 where
  pub lawful : IsPool pool
  pub sum : asked ≡ asked_sum pool.tickets
  pub room : length pool.tickets + pool.calls ≤ capacity

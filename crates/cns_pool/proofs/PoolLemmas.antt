-- Tickets in the order in which they were drawn.
use Rattle.std.proofs.Common.{◌≡◌, ℕ, ◌+◌, ◌-◌, ◌<◌, ◌≤◌, List, [], ◌∷◌, ◌++◌, arith, refl, ◌∙◌, length-append}
use Rattle.std.proofs.lemmas.List.{map-append}
use Rattle.std.proofs.lemmas.List.Sums.{sum_by-cons, sum_by_push}
use Rattle.cns_pool.specs.declared.ticket.Ticket.{Ticket}
use Rattle.cns_pool.specs.Tiles.{Interval, size_sum, Tiles, AreChained}
use Rattle.cns_pool.specs.Pool.{Pooled, IsPool, interval_of, intervals_of, asked_sum, HaveShares}
use Rattle.cns_pool.specs.PlainPool.{IsStored}
use Rattle.cns_pool.proofs.TileLemmas.{AreChained-Tiles, AreChained_push}

-- the tickets' intervals have the tickets' shares
pub size_sum-intervals_of : (tickets : List Ticket) → size_sum (intervals_of tickets) ≡ asked_sum tickets
size_sum-intervals_of [] = refl
size_sum-intervals_of (t ∷ tickets) =
    omega (arith, sum_by-cons (λ (i : Interval). i.1) (interval_of t) (intervals_of tickets), sum_by-cons (λ (u : Ticket). u.asked) t tickets, size_sum-intervals_of tickets)

-- one more ticket with a share leaves them all with shares
pub HaveShares_push : (tickets : List Ticket) (next : Ticket) → HaveShares tickets → 1 ≤ next.asked → HaveShares (tickets ++ next ∷ [])
HaveShares_push [] next have some = (some, tt)
HaveShares_push (t ∷ tickets) next have some = (have.0, HaveShares_push tickets next have.1 some)

-- one more ticket, which starts at the sum of the tickets, leaves their intervals chained
pub chained_push : (tickets : List Ticket) (next : Ticket) → AreChained 0 (intervals_of tickets) → next.start ≡ asked_sum tickets
    → AreChained 0 (intervals_of (tickets ++ next ∷ []))
chained_push tickets next chained starts =
    rw (map-append interval_of tickets (next ∷ []))
    (AreChained_push 0 (intervals_of tickets) (interval_of next) chained (omega (arith, size_sum-intervals_of tickets)))

-- a pool that has drawn its next ticket is lawful
pub IsPool_drawn : (pool : Pooled) (ticket : Ticket) → IsPool pool → ticket.start ≡ asked_sum pool.tickets → 1 ≤ ticket.asked → ticket.asked ≤ pool.budget
    → IsPool (record pool { tickets = pool.tickets ++ ticket ∷ []; budget = pool.budget - ticket.asked; calls = pool.calls - 1 })
IsPool_drawn pool ticket lawful starts some within = record {
  chained = chained_push pool.tickets ticket lawful.chained starts;
  shares = HaveShares_push pool.tickets ticket lawful.shares some;
  asked = let limit = lawful.asked in omega (arith, sum_by_push (λ (t : Ticket). t.asked) pool.tickets ticket);
  poured = lawful.poured;
}

-- the same of the pool as it is stored
pub IsStored_drawn : (pool next : Pooled) (sum next_sum capacity next_capacity : ℕ) (ticket : Ticket)
    → IsStored pool sum capacity → ticket.start ≡ sum → 1 ≤ ticket.asked → ticket.asked ≤ pool.budget → 0 < pool.calls
    → next ≡ record pool { tickets = pool.tickets ++ ticket ∷ []; budget = pool.budget - ticket.asked; calls = pool.calls - 1 }
    → next_sum ≡ sum + ticket.asked → next_capacity ≡ capacity → IsStored next next_sum next_capacity
IsStored_drawn pool next sum next_sum capacity next_capacity ticket stored starts some within left is_next is_sum is_capacity =
    rw (is_next, is_sum, is_capacity) (record {
      lawful = IsPool_drawn pool ticket stored.lawful (starts ∙ stored.sum) some within;
      sum = let before = stored.sum in omega (arith, sum_by_push (λ (t : Ticket). t.asked) pool.tickets ticket);
      room = let room = stored.room in omega (arith, length-append pool.tickets (ticket ∷ []));
    })

-- the tickets of a lawful pool tile
pub IsPool-Tiles : (pool : Pooled) → IsPool pool → Tiles (intervals_of pool.tickets)
IsPool-Tiles pool lawful = AreChained-Tiles (intervals_of pool.tickets) lawful.chained

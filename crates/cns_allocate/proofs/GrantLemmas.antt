-- The grants of tickets that tile.
use Rattle.std.proofs.Common.{◌≡◌, ℕ, suc, zero, ◌+◌, min, cond, List, [], ◌∷◌, arith, refl, ◌∙◌}
use Rattle.std.specs.Prelude.{sum, sum_by, map}
use Rattle.std.proofs.lemmas.List.Sums.{sum_by-cons, sum-map}
use Rattle.cns_pool.specs.declared.ticket.Ticket.{Ticket}
use Rattle.cns_pool.specs.Tiles.{Tiles, cover_count, lies_in, size_sum}
use Rattle.cns_pool.specs.Pool.{asked_sum, interval_of, intervals_of}
use Rattle.cns_pool.proofs.TileLemmas.{below_number, cover_count-cons, lies_in_number}
use Rattle.cns_pool.proofs.PoolLemmas.{size_sum-intervals_of}
use Rattle.cns_allocate.specs.Grants.{grant_of}

-- one more share poured goes to a ticket whose interval it lies in
grant_more : (share : ℕ) (t : Ticket) → grant_of (suc share) t ≡ grant_of share t + cond (lies_in share (interval_of t)) 1 0
grant_more share t = omega (arith, lies_in_number share t.start t.asked)

-- so it goes to as many tickets as have it in their intervals
grants_more : (share : ℕ) (ts : List Ticket) → sum_by (grant_of (suc share)) ts ≡ sum_by (grant_of share) ts + cover_count share (intervals_of ts)
grants_more share [] = refl
grants_more share (t ∷ ts) =
    omega (
      arith,
      grant_more share t,
      lies_in_number share t.start t.asked,
      sum_by-cons (grant_of (suc share)) t ts,
      sum_by-cons (grant_of share) t ts,
      cover_count-cons share (interval_of t) (intervals_of ts),
      grants_more share ts,
    )

-- where nothing was poured, nothing is granted
no_grants : (ts : List Ticket) → sum_by (grant_of 0) ts ≡ 0
no_grants [] = refl
no_grants (t ∷ ts) = omega (arith, sum_by-cons (grant_of 0) t ts, no_grants ts)

-- tickets that tile are granted all that was poured, up to all that was asked
pub sum_by-grant_of : (poured : ℕ) (ts : List Ticket) → Tiles (intervals_of ts) → sum_by (grant_of poured) ts ≡ min poured (asked_sum ts)
sum_by-grant_of zero ts tiles = omega (arith, no_grants ts)
sum_by-grant_of (suc p) ts tiles =
    omega (
      arith,
      grants_more p ts,
      tiles p,
      below_number p (size_sum (intervals_of ts)),
      size_sum-intervals_of ts,
      sum_by-grant_of p ts tiles,
    )

pub sum-grants : (poured : ℕ) (ts : List Ticket) → Tiles (intervals_of ts) → sum (map (grant_of poured) ts) ≡ min poured (asked_sum ts)
sum-grants poured ts tiles = sum-map (grant_of poured) ts ∙ sum_by-grant_of poured ts tiles

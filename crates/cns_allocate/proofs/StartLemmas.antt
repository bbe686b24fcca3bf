-- Tickets that tile stand end to end once they are in the order of their starts.
use Rattle.std.proofs.Common.{ℕ, suc, ◌≤◌, List, [], ◌∷◌, arith}
use Rattle.std.specs.Prelude.{All, IsPermutation}
use Rattle.std.specs.List.Sorted.{IsNonDecreasingBy}
use Rattle.std.proofs.lemmas.List.Elements.{All-cons, All-head, All-nil, All-tail}
use Rattle.std.proofs.lemmas.List.Sorted.{All-permutation, IsNonDecreasingBy-drop}
use Rattle.cns_pool.specs.declared.ticket.Ticket.{Ticket}
use Rattle.cns_pool.specs.Tiles.{AreChained, Tiles}
use Rattle.cns_pool.specs.Pool.{HaveShares, intervals_of}
use Rattle.cns_pool.proofs.ReplyLemmas.{ByStart, StartFrom, Tiles-AreChained}

start_from : (n : ℕ) (ts : List Ticket) → All (λ (t : Ticket). n ≤ t.start) ts → HaveShares ts → StartFrom n ts
start_from n [] from have = tt
start_from n (t ∷ ts) from have =
    (All-head (λ (u : Ticket). n ≤ u.start) t ts from, have.0, start_from n ts (All-tail (λ (u : Ticket). n ≤ u.start) t ts from) have.1)

by_start : (ts : List Ticket) → IsNonDecreasingBy (λ (u : Ticket). u.start) ts → HaveShares ts → ByStart ts
by_start [] sorted have = tt
by_start (t ∷ ts) sorted have = (
  have.0,
  start_from t.start ts (λ k d below. sorted 0 (suc k) d (omega arith) (omega arith)) have.1,
  by_start ts (IsNonDecreasingBy-drop (λ (u : Ticket). u.start) 1 (t ∷ ts) sorted) have.1,
)

HaveShares-All : (ts : List Ticket) → HaveShares ts → All (λ (t : Ticket). 1 ≤ t.asked) ts
HaveShares-All [] have = All-nil _
HaveShares-All (t ∷ ts) have = All-cons (λ (u : Ticket). 1 ≤ u.asked) t ts have.0 (HaveShares-All ts have.1)

All-HaveShares : (ts : List Ticket) → All (λ (t : Ticket). 1 ≤ t.asked) ts → HaveShares ts
All-HaveShares [] all = tt
All-HaveShares (t ∷ ts) all =
    (All-head (λ (u : Ticket). 1 ≤ u.asked) t ts all, All-HaveShares ts (All-tail (λ (u : Ticket). 1 ≤ u.asked) t ts all))

-- tickets that each have a share have it in each order
pub HaveShares-permutation : (ts us : List Ticket) → IsPermutation ts us → HaveShares ts → HaveShares us
HaveShares-permutation ts us same have = All-HaveShares us (All-permutation (λ (t : Ticket). 1 ≤ t.asked) ts us same (HaveShares-All ts have))

-- tickets that tile, each with a share, stand end to end from 0 by start
pub chained-by_start : (ts us : List Ticket) → IsPermutation ts us → IsNonDecreasingBy (λ (u : Ticket). u.start) us
    → Tiles (intervals_of ts) → HaveShares ts → AreChained 0 (intervals_of us)
chained-by_start ts us same sorted tiles have =
    Tiles-AreChained ts us same (by_start us sorted (HaveShares-permutation ts us same have)) tiles

-- Tickets that tile are, in the order of their starts, the replies of a pool of one thread.
use Rattle.std.proofs.Common.{◌≡◌, ℕ, ◌+◌, ◌-◌, ◌<◌, ◌≤◌, min, false, List, [], ◌∷◌, ◌++◌, length, arith, refl, sym, ap, subst, inl, inr}
use Rattle.std.specs.Prelude.{cond, IsPermutation}
use Rattle.std.proofs.lemmas.Bool.{cases_lt}
use Rattle.std.proofs.lemmas.List.Sorted.{IsPermutation-refl, IsPermutation-cons, IsPermutation-middle, IsPermutation-trans, IsPermutation-map, sum_by-IsPermutation}
use Rattle.std.proofs.lemmas.List.Sums.{sum_by-cons, sum_by_push}
use Rattle.cns_pool.specs.declared.ticket.Ticket.{Ticket}
use Rattle.cns_pool.specs.declared.ticket.Reserved.TheVariants.{Ticket as Drawn}
use Rattle.cns_pool.specs.Tiles.{AreChained, Interval, Tiles, cover_count, lies_in, size_sum}
use Rattle.cns_pool.specs.Pool.{interval_of, intervals_of, asked_sum, HaveShares}
use Rattle.cns_pool.specs.Replies.{AreReplies, AreDrawn}
use Rattle.cns_pool.proofs.TileLemmas.{below_number, cover_count-cons}

-- none of the tickets starts below n, and each has a share
abbrev pub StartFrom : ℕ → List Ticket → Type 0
StartFrom n [] = Unit {0}
StartFrom n (t ∷ ts) = (n ≤ t.start) × (1 ≤ t.asked) × StartFrom n ts

-- none of the tickets starts below one before it, and each has a share
abbrev pub ByStart : List Ticket → Type 0
ByStart [] = Unit {0}
ByStart (t ∷ ts) = (1 ≤ t.asked) × StartFrom t.start ts × ByStart ts

StartFrom-le : (m n : ℕ) (ts : List Ticket) → m ≤ n → StartFrom n ts → StartFrom m ts
StartFrom-le m n [] le from = tt
StartFrom-le m n (t ∷ ts) le from = let start = from.0 in (omega arith, from.1, StartFrom-le m n ts le from.2)

-- a ticket, put among tickets in the order of their starts
record Placed (ticket : Ticket) (others : List Ticket) : Type 0 where
  placed : List Ticket
  same : IsPermutation (ticket ∷ others) placed
  sorted : ByStart placed
  above : (n : ℕ) → n ≤ ticket.start → StartFrom n others → StartFrom n placed

place : (ticket : Ticket) (others : List Ticket) → 1 ≤ ticket.asked → ByStart others → Placed ticket others
place t [] some sorted = record { placed = t ∷ []; same = IsPermutation-refl (t ∷ []); sorted = (some, tt, tt); above = λ n le from. (le, some, tt) }
place t (u ∷ us) some sorted =
    elim (cases_lt u.start t.start) [
      | inl before ↦
          let rest = place t us some sorted.2 in record {
            placed = u ∷ rest.placed;
            same = IsPermutation-trans (t ∷ u ∷ us) (u ∷ t ∷ us) (u ∷ rest.placed) (IsPermutation-middle (t ∷ []) u us) (IsPermutation-cons u (t ∷ us) rest.placed rest.same);
            sorted = (sorted.0, rest.above u.start (omega arith) sorted.1, rest.sorted);
            above = λ n le from. (from.0, from.1, rest.above n le from.2);
          }
      | inr from ↦ record {
        placed = t ∷ u ∷ us;
        same = IsPermutation-refl (t ∷ u ∷ us);
        sorted = (some, (from, sorted.0, StartFrom-le t.start u.start us from sorted.1), sorted);
        above = λ n le start. (le, some, start);
      }
    ]

-- tickets in the order of their starts
record Sorted (tickets : List Ticket) : Type 0 where
  drawn : List Ticket
  same : IsPermutation tickets drawn
  sorted : ByStart drawn

sort : (tickets : List Ticket) → HaveShares tickets → Sorted tickets
sort [] have = record { drawn = []; same = IsPermutation-refl []; sorted = tt }
sort (t ∷ ts) have =
    let rest = sort ts have.1 in let all = place t rest.drawn have.0 rest.sorted in record {
      drawn = all.placed;
      same = IsPermutation-trans (t ∷ ts) (t ∷ rest.drawn) all.placed (IsPermutation-cons t ts rest.drawn rest.same) all.same;
      sorted = all.sorted;
    }

-- each share from n up to the sum of the sizes from there lies in just one of the intervals, and each other share in none
abbrev TilesFrom : ℕ → List Interval → Type 0
TilesFrom n intervals = (share : ℕ) → cover_count share intervals ≡ min 1 (n + size_sum intervals - share) - min 1 (n - share)

-- a share below each start lies in none of the intervals
uncovered : (share n : ℕ) (ts : List Ticket) → StartFrom n ts → share < n → cover_count share (intervals_of ts) ≡ 0
uncovered share n [] from below = refl
uncovered share n (t ∷ ts) from below = let start = from.0 in omega (arith, cover_count-cons share (interval_of t) (intervals_of ts), uncovered share n ts from.2 below)

-- the first of the tickets that tile from n starts at n
starts_at : (n : ℕ) (t : Ticket) (ts : List Ticket) → 1 ≤ t.asked → StartFrom t.start ts → TilesFrom n (intervals_of (t ∷ ts)) → t.start ≡ n
starts_at n t ts some least tiles =
    let sizes = sum_by-cons (λ (i : Interval). i.1) (interval_of t) (intervals_of ts) in
    elim (cases_lt t.start n) [
      | inl before ↦ absurd (omega (arith, tiles t.start, cover_count-cons t.start (interval_of t) (intervals_of ts), sizes))
      | inr from ↦
          elim (cases_lt n t.start) [
            | inl after ↦ absurd (omega (arith, tiles n, cover_count-cons n (interval_of t) (intervals_of ts), sizes, uncovered n t.start ts least after))
            | inr upto ↦ omega arith
          ]
    ]

-- what is below n is below a larger number
below_more : (share n more : ℕ) → min 1 (n - share) ≤ min 1 (n + more - share)
below_more share n more = omega arith

-- between the middle and the largest of three numbers lies what is left
what_is_left : (low middle high rest : ℕ) → low ≤ middle → middle ≤ high → (middle - low) + rest ≡ high - low → rest ≡ high - middle
what_is_left low middle high rest first second all = omega arith

-- and the others tile from where it ends
rest_tiles : (n : ℕ) (t : Ticket) (ts : List Ticket) → t.start ≡ n → TilesFrom n (intervals_of (t ∷ ts)) → TilesFrom (n + t.asked) (intervals_of ts)
rest_tiles n t ts starts tiles share =
    let sizes : n + size_sum (intervals_of (t ∷ ts)) ≡ n + t.asked + size_sum (intervals_of ts) =
    omega (arith, sum_by-cons (λ (i : Interval). i.1) (interval_of t) (intervals_of ts)) in
    let all = rw (cover_count-cons share (interval_of t) (intervals_of ts), starts, sizes) at (tiles share) in
    what_is_left _ _ _ _ (below_more share n t.asked) (below_more share (n + t.asked) (size_sum (intervals_of ts))) all

chained_from : (n : ℕ) (ts : List Ticket) → ByStart ts → TilesFrom n (intervals_of ts) → AreChained n (intervals_of ts)
chained_from n [] sorted tiles = tt
chained_from n (t ∷ ts) sorted tiles =
    let starts : t.start ≡ n = starts_at n t ts sorted.0 sorted.1 tiles in
    (starts, chained_from (n + t.asked) ts sorted.2 (rest_tiles n t ts starts tiles))

-- tickets that tile do so in each order
Tiles-permutation : (ts us : List Ticket) → IsPermutation ts us → Tiles (intervals_of ts) → TilesFrom 0 (intervals_of us)
Tiles-permutation ts us same tiles share =
    let moved = IsPermutation-map interval_of ts us same in
    let counts = sum_by-IsPermutation (λ (i : Interval). cond (lies_in share i) 1 0) (intervals_of ts) (intervals_of us) moved in
    let sizes = sum_by-IsPermutation (λ (i : Interval). i.1) (intervals_of ts) (intervals_of us) moved in
    omega (arith, tiles share, below_number share (size_sum (intervals_of ts)), counts, sizes)

-- tickets that tile stand end to end from 0 by start
pub Tiles-AreChained : (ts us : List Ticket) → IsPermutation ts us → ByStart us → Tiles (intervals_of ts) → AreChained 0 (intervals_of us)
Tiles-AreChained ts us same sorted tiles = chained_from 0 us sorted (Tiles-permutation ts us same tiles)

-- tickets that stand end to end from where a pool's own end are its replies
replies_from : (before : List Ticket) (budget calls : ℕ) (ts : List Ticket) → AreChained (asked_sum before) (intervals_of ts)
    → AreReplies (record { tickets = before; poured = 0; sealed = false; budget = budget; pour_room = 0; calls = calls }) ts
replies_from before budget calls [] chained = tt
replies_from before budget calls (t ∷ ts) chained =
    let next : Ticket = record t { start = asked_sum before } in (
      ap (λ (n : ℕ). Drawn (record t { start = n })) (sym chained.0),
      replies_from (before ++ next ∷ []) (budget - t.asked) (calls - 1) ts
          (subst (λ (n : ℕ). AreChained n (intervals_of ts)) (sym (sum_by_push (λ (u : Ticket). u.asked) before next)) chained.1),
    )

pub Tiles-AreDrawn : (tickets : List Ticket) → HaveShares tickets → Tiles (intervals_of tickets) → AreDrawn tickets
Tiles-AreDrawn tickets have tiles =
    let sorted = sort tickets have in record {
      drawn = sorted.drawn;
      same = sorted.same;
      replies = replies_from [] (asked_sum tickets) (length tickets) sorted.drawn (Tiles-AreChained tickets sorted.drawn sorted.same sorted.sorted tiles);
    }

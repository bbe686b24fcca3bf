-- Intervals that stand end to end tile.
use Rattle.std.proofs.Common.{◌≡◌, ℕ, ◌+◌, ◌-◌, ◌≤◌, min, List, [], ◌∷◌, ◌++◌, arith, inl, inr, ◌∙◌}
use Rattle.std.specs.Prelude.{cond, nat_lt}
use Rattle.std.proofs.lemmas.Bool.{cases_lt, cond-true, cond-false, and_from, and_left, and_right, lt-ltb, le-ltb, le-leb, lt-leb}
use Rattle.std.proofs.lemmas.List.Sums.{sum_by-cons}
use Rattle.cns_pool.specs.Tiles.{Interval, lies_in, cover_count, size_sum, Tiles, AreChained}

-- 1 for a share below n, and else 0
pub below_number : (share n : ℕ) → cond (nat_lt share n) 1 0 ≡ min 1 (n - share)
below_number share n =
    elim (cases_lt share n) [
      | inl below ↦ cond-true _ 1 0 (lt-ltb share n below) ∙ omega arith
      | inr past ↦ cond-false _ 1 0 (le-ltb share n past) ∙ omega arith
    ]

-- 1 for a share in the interval, and else 0
pub lies_in_number : (share start size : ℕ) → cond (lies_in share (start, size)) 1 0 ≡ min 1 (start + size - share) - min 1 (start - share)
lies_in_number share start size =
    elim (cases_lt share start) [
      | inl before ↦ cond-false _ 1 0 (and_left _ _ (lt-leb start share before)) ∙ omega arith
      | inr from ↦
          elim (cases_lt share (start + size)) [
            | inl below ↦ cond-true _ 1 0 (and_from _ _ (le-leb start share from) (lt-ltb share (start + size) below)) ∙ omega arith
            | inr past ↦ cond-false _ 1 0 (and_right _ _ (le-ltb share (start + size) past)) ∙ omega arith
          ]
    ]

-- in how many of the intervals a share lies, the first among them
pub cover_count-cons : (share : ℕ) (interval : Interval) (intervals : List Interval)
    → cover_count share (interval ∷ intervals) ≡ min 1 (interval.0 + interval.1 - share) - min 1 (interval.0 - share) + cover_count share intervals
cover_count-cons share interval intervals =
    omega (arith, sum_by-cons (λ i. cond (lies_in share i) 1 0) interval intervals, lies_in_number share interval.0 interval.1)

-- what is below n is below a larger number
below_more : (share n more : ℕ) → min 1 (n - share) ≤ min 1 (n + more - share)
below_more share n more = omega arith

-- between the least and the largest of three numbers lies what lies between neighbours
between : (low middle high : ℕ) → low ≤ middle → middle ≤ high → (middle - low) + (high - middle) ≡ high - low
between low middle high first second = omega arith

-- an interval and what is chained to it
chain_step : (share n size rest : ℕ)
    → (min 1 (n + size - share) - min 1 (n - share)) + (min 1 (n + size + rest - share) - min 1 (n + size - share)) ≡ min 1 (n + size + rest - share) - min 1 (n - share)
chain_step share n size rest = between _ _ _ (below_more share n size) (below_more share (n + size) rest)

-- a share lies in one of the intervals that are chained from n where it lies between their ends, and else in none
pub cover_count_chained : (n : ℕ) (intervals : List Interval) (share : ℕ) → AreChained n intervals
    → cover_count share intervals ≡ min 1 (n + size_sum intervals - share) - min 1 (n - share)
cover_count_chained n [] share chained = omega arith
cover_count_chained n (i ∷ intervals) share chained =
    let sizes : n + size_sum (i ∷ intervals) ≡ n + i.1 + size_sum intervals = omega (arith, sum_by-cons (λ (j : Interval). j.1) i intervals) in
    rw (cover_count-cons share i intervals, cover_count_chained (n + i.1) intervals share chained.1, sizes, chained.0)
    (chain_step share n i.1 (size_sum intervals))

-- intervals that are chained from 0 tile
pub AreChained-Tiles : (intervals : List Interval) → AreChained 0 intervals → Tiles intervals
AreChained-Tiles intervals chained share =
    omega (arith, cover_count_chained 0 intervals share chained, below_number share (size_sum intervals))

-- one more interval, which starts where the last one ends, leaves the intervals chained
pub AreChained_push : (n : ℕ) (intervals : List Interval) (next : Interval) → AreChained n intervals → next.0 ≡ n + size_sum intervals
    → AreChained n (intervals ++ next ∷ [])
AreChained_push n [] next chained starts = (omega arith, tt)
AreChained_push n (i ∷ intervals) next chained starts =
    (chained.0, AreChained_push (n + i.1) intervals next chained.1 (omega (arith, sum_by-cons (λ (j : Interval). j.1) i intervals)))

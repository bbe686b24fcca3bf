-- Half-open intervals of shares, and what it is for them to tile (this project's own rule).
use Rattle.std.specs.Prelude.{◌≡◌, ℕ, ◌+◌, Bool, ◌&&◌, nat_le, nat_lt, List, [], ◌∷◌, sum_by, count_by, if◌then◌else◌}

-- an interval: its start, and its size
abbrev pub Interval : Type 0
Interval = ℕ × ℕ

-- whether a share lies in an interval
abbrev pub lies_in : ℕ → Interval → Bool
lies_in share interval = nat_le interval.0 share && nat_lt share (interval.0 + interval.1)

-- how many of the intervals a share lies in
abbrev pub cover_count : ℕ → List Interval → ℕ
cover_count share intervals = count_by (lies_in share) intervals

-- the sum of their sizes
abbrev pub size_sum : List Interval → ℕ
size_sum intervals = sum_by (λ (interval : Interval). interval.1) intervals

-- each share below the sum of the sizes lies in just one of the intervals, and each other share in none
abbrev pub Tiles : List Interval → Type 0
Tiles intervals = (share : ℕ) → cover_count share intervals ≡ (if nat_lt share (size_sum intervals) then 1 else 0)

-- the first starts at n, and each other one where the one before it ends
abbrev pub AreChained : ℕ → List Interval → Type 0
AreChained n [] = Unit {0}
AreChained n (interval ∷ intervals) = (interval.0 ≡ n) × AreChained (n + interval.1) intervals

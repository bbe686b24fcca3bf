-- What a queue of undue trades still has, as those of its trades become due that settle by a day.
use Rattle.std.proofs.Common.{◌≡◌, ◌≤◌, ◌<◌, ◌+◌, ℕ, List, true, false, length, get_or, take, ap, ◌∙◌, arith}
use Rattle.std.specs.Prelude.{All, filter, nat_lt, sum_by}
use Rattle.std.specs.List.Sorted.{IsPermutation}
use Rattle.std.proofs.lemmas.Bool.Decides.{nat_tests}
use Rattle.std.proofs.lemmas.List.Elements.{All-filter}
use Rattle.std.proofs.lemmas.List.Sorted.{All-permutation, sum_by-IsPermutation}
use Rattle.std.proofs.lemmas.List.Sums.{sum_by-le, sum_by_more}
use Rattle.cns_ids.proofs.ListLemmas.{sum_by-filter}
use Rattle.cns_netting.specs.Undue.{if_left, if_settled}
use Rattle.cns_netting.specs.declared.undue.Undue.{Undue}

-- a trade counts where it settles by the day, and else is left
settled : (day : ℕ) (f : Undue → ℕ) (t : Undue) → t.settle ≤ day → if_settled day f t ≡ f t
settled day f t due = grind (arith, nat_tests)

later : (day : ℕ) (f : Undue → ℕ) (t : Undue) → day < t.settle → if_settled day f t ≡ 0
later day f t less = grind (arith, nat_tests)

-- where all trades settle later, none counts
pub none-settled : (day : ℕ) (f : Undue → ℕ) (ts : List Undue) → All (λ (t : Undue). day < t.settle) ts → sum_by (if_settled day f) ts ≡ 0
none-settled day f ts all = omega (arith, sum_by-le (if_settled day f) 0 ts (λ i t below. omega (arith, later day f (get_or ts i t) (all i t below))))

-- the trades that settle later are those that are left
pub left-later : (day : ℕ) (f : Undue → ℕ) (ts left : List Undue) → IsPermutation (filter (λ (t : Undue). nat_lt day t.settle) ts) left → sum_by f left ≡ sum_by (if_left day f) ts
left-later day f ts left perm =
    sum_by-IsPermutation f (filter (λ (t : Undue). nat_lt day t.settle) ts) left perm ∙ sum_by-filter f (if_left day f) (λ (t : Undue). nat_lt day t.settle) kept none ts
  where
    kept : (t : Undue) → nat_lt day t.settle ≡ true → f t ≡ if_left day f t
    kept t e = grind (arith, nat_tests)

    none : (t : Undue) → nat_lt day t.settle ≡ false → ◌≡◌ {A = ℕ} (if_left day f t) 0
    none t e = grind (arith, nat_tests)

pub all-later : (day : ℕ) (P : Undue → Type 0) (ts left : List Undue) → IsPermutation (filter (λ (t : Undue). nat_lt day t.settle) ts) left → All P ts → All P left
all-later day P ts left perm all = All-permutation P (filter (λ (t : Undue). nat_lt day t.settle) ts) left perm (All-filter (λ (t : Undue). nat_lt day t.settle) P ts all)

-- one trade more counts where it settles by the day, and else not
pub settled_more : (day : ℕ) (f : Undue → ℕ) (ts : List Undue) (i : ℕ) (t : Undue) → i < length ts → t ≡ get_or ts i t → t.settle ≤ day
    → sum_by (if_settled day f) (take (i + 1) ts) ≡ sum_by (if_settled day f) (take i ts) + f t
settled_more day f ts i t below is due = omega (arith, sum_by_more (if_settled day f) ts i t below, ap (if_settled day f) is, settled day f t due)

pub later_more : (day : ℕ) (f : Undue → ℕ) (ts : List Undue) (i : ℕ) (t : Undue) → i < length ts → t ≡ get_or ts i t → day < t.settle
    → sum_by (if_settled day f) (take (i + 1) ts) ≡ sum_by (if_settled day f) (take i ts)
later_more day f ts i t below is less = omega (arith, sum_by_more (if_settled day f) ts i t below, ap (if_settled day f) is, later day f t less)

-- The number of a holding.
use Rattle.std.proofs.Common.{◌≡◌, ℕ, ◌+◌, ◌*◌, ◌^◌, ◌<◌, ap, sym, ◌∙◌, arith, inl, inr, ◌⊎◌, nat_cmp, Less, Equal, Greater}
use Rattle.std.specs.Cmp.{nat_cmp_is}
use Rattle.std.specs.Ordering.{ordering_then}
use Rattle.std.proofs.lemmas.Bool.{cases_order}
use Rattle.cns_ids.specs.CusipNumber.{narrowed, widened}
use Rattle.cns_ids.specs.Holding.{holding_cmp, holding_word}
use Rattle.cns_ids.specs.declared.holding.Holding.{Holding}
use Rattle.cns_ids.proofs.CusipLemmas.{widened-cmp}

-- two numbers in one stand in the order of the first, then the second
pair_cmp : (x y m n : ℕ) → m < 2 ^ 64 → n < 2 ^ 64 → nat_cmp (x * 2 ^ 64 + m) (y * 2 ^ 64 + n) ≡ ordering_then (nat_cmp x y) (nat_cmp m n)
pair_cmp x y m n small other = by (cases_order x y) (cases_order m n)
  where
    by : ((x ≡ y) ⊎ ((x < y) ⊎ (y < x))) → ((m ≡ n) ⊎ ((m < n) ⊎ (n < m))) → nat_cmp (x * 2 ^ 64 + m) (y * 2 ^ 64 + n) ≡ ordering_then (nat_cmp x y) (nat_cmp m n)
    by (inr (inl less)) any = sym (nat_cmp_is (x * 2 ^ 64 + m) (y * 2 ^ 64 + n) Less (omega (arith, less, small, other))) ∙ ap (λ o. ordering_then o (nat_cmp m n)) (nat_cmp_is x y Less less)
    by (inr (inr more)) any = sym (nat_cmp_is (x * 2 ^ 64 + m) (y * 2 ^ 64 + n) Greater (omega (arith, more, small, other))) ∙ ap (λ o. ordering_then o (nat_cmp m n)) (nat_cmp_is x y Greater more)
    by (inl same) (inl equal) =
        sym (nat_cmp_is (x * 2 ^ 64 + m) (y * 2 ^ 64 + n) Equal (omega (arith, same, equal))) ∙ nat_cmp_is m n Equal equal
        ∙ ap (λ o. ordering_then o (nat_cmp m n)) (nat_cmp_is x y Equal same)
    by (inl same) (inr (inl less)) =
        sym (nat_cmp_is (x * 2 ^ 64 + m) (y * 2 ^ 64 + n) Less (omega (arith, same, less))) ∙ nat_cmp_is m n Less less
        ∙ ap (λ o. ordering_then o (nat_cmp m n)) (nat_cmp_is x y Equal same)
    by (inl same) (inr (inr more)) =
        sym (nat_cmp_is (x * 2 ^ 64 + m) (y * 2 ^ 64 + n) Greater (omega (arith, same, more))) ∙ nat_cmp_is m n Greater more
        ∙ ap (λ o. ordering_then o (nat_cmp m n)) (nat_cmp_is x y Equal same)

-- holdings stand in the order of their numbers
pub word_cmp : (a b : Holding) → widened 9 (narrowed 9 a.issue) ≡ a.issue → widened 9 (narrowed 9 b.issue) ≡ b.issue → a.member < 2 ^ 64 → b.member < 2 ^ 64
    → nat_cmp (holding_word a) (holding_word b) ≡ holding_cmp a b
word_cmp a b wide other small little =
    let issues : nat_cmp (narrowed 9 a.issue) (narrowed 9 b.issue) ≡ nat_cmp a.issue b.issue =
    sym (widened-cmp 9 (narrowed 9 a.issue) (narrowed 9 b.issue)) ∙ ap (λ k. nat_cmp k (widened 9 (narrowed 9 b.issue))) wide ∙ ap (nat_cmp a.issue) other in
    pair_cmp (narrowed 9 a.issue) (narrowed 9 b.issue) a.member b.member small little ∙ ap (λ o. ordering_then o (nat_cmp a.member b.member)) issues

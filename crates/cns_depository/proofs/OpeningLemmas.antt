-- What adding an opening does to the sums of the issues.
use Rattle.std.proofs.Common.{◌≡◌, ℕ, ◌+◌, ◌^◌, ◌≤◌, true, false, List, [], ◌∷◌, ◌++◌, arith}
use Rattle.std.proofs.lemmas.Bool.{and_parts, cond-false, cond-true, eqb-true}
use Rattle.std.specs.Prelude.{sum_by, if◌then◌else◌, ◌==◌}
use Rattle.std.proofs.lemmas.List.Sums.{sum_by-cons, sum_by-append}
use Rattle.cns_trades.specs.declared.opening.Opening.{Opening}
use Rattle.cns_depository.specs.declared.account.Account.TheVariants.{Member}
use Rattle.cns_depository.specs.Openings.{is_opening_of, issue_sum, opening_shares, DoIssuesFit}

-- one more opening adds its shares to the sum of its issue, and leaves the others
pub issue_sum-more : (xs : List Opening) (o : Opening) (issue : ℕ) → issue_sum (xs ++ o ∷ []) issue ≡ issue_sum xs issue + (if o.issue == issue then o.shares else 0)
unfolding issue_sum
issue_sum-more xs o issue =
    let f : Opening → ℕ = λ (x : Opening). if x.issue == issue then x.shares else 0 in
    omega (arith, sum_by-append f xs (o ∷ []), sum_by-cons f o [])

-- where the sum of its issue stays within 10^18, so do all
pub fits_more : (xs : List Opening) (o : Opening) → DoIssuesFit xs → issue_sum xs o.issue + o.shares ≤ 10 ^ 18 → DoIssuesFit (xs ++ o ∷ [])
fits_more xs o fits within issue =
    let more = issue_sum-more xs o issue in
    let before = fits issue in
    grind (arith, more, before, within)

-- an opening of a member in an issue, and one that is not
pub opening_is : (o : Opening) (m i : ℕ) → is_opening_of m i o ≡ true → (o.member ≡ m) × (o.issue ≡ i)
opening_is o m i its = let both = and_parts (o.member == m) (o.issue == i) its in (eqb-true o.member m both.0, eqb-true o.issue i both.1)

pub shares_its : (o : Opening) (xs : List Opening) (m i : ℕ) → is_opening_of m i o ≡ true → opening_shares (o ∷ xs) (Member m) i ≡ o.shares + opening_shares xs (Member m) i
shares_its o xs m i its = omega (arith, sum_by-cons (λ (x : Opening). if is_opening_of m i x then x.shares else 0) o xs, cond-true (is_opening_of m i o) o.shares 0 its)

pub shares_other : (o : Opening) (xs : List Opening) (m i : ℕ) → is_opening_of m i o ≡ false → opening_shares (o ∷ xs) (Member m) i ≡ opening_shares xs (Member m) i
shares_other o xs m i other = omega (arith, sum_by-cons (λ (x : Opening). if is_opening_of m i x then x.shares else 0) o xs, cond-false (is_opening_of m i o) o.shares 0 other)

-- a member opens with no more than the sum of the issue
pub member_le_issue : (xs : List Opening) (member issue : ℕ) → opening_shares xs (Member member) issue ≤ issue_sum xs issue
unfolding issue_sum
member_le_issue [] member issue = omega arith
member_le_issue (o ∷ xs) member issue =
    let f : Opening → ℕ = λ (x : Opening). if is_opening_of member issue x then x.shares else 0 in
    let g : Opening → ℕ = λ (x : Opening). if x.issue == issue then x.shares else 0 in
    let rest : sum_by f xs ≤ sum_by g xs = member_le_issue xs member issue in
    let head : f o ≤ g o = grind arith in
    omega (arith, sum_by-cons f o xs, sum_by-cons g o xs, rest, head)

-- so it opens with at most 10^18, where the issues fit
pub member_small : (xs : List Opening) (member issue : ℕ) → DoIssuesFit xs → opening_shares xs (Member member) issue ≤ 10 ^ 18
member_small xs member issue fits = omega (arith, member_le_issue xs member issue, fits issue)

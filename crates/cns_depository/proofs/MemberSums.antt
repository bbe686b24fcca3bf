-- Sums of a number of each member.
use Rattle.std.proofs.Common.{◌≡◌, ℕ, zero, suc, ◌+◌, ◌-◌, ◌≤◌, ◌<◌, ◌&&◌, Bool, false, List, [], ◌∷◌, arith, refl, ap, ⊎_elim}
use Rattle.cns_journal.proofs.LayoutLemmas.{by_bool}
use Rattle.std.specs.Prelude.{◌==◌, max, if◌then◌else◌}
use Rattle.std.proofs.lemmas.Bool.{cases_lt, eq-eqb, eqb-true, ne_eqb}
use Rattle.std.proofs.lemmas.List.Sums.{sum_by-cons}
use Rattle.cns_trades.specs.declared.opening.Opening.{Opening}
use Rattle.cns_depository.specs.declared.account.Account.TheVariants.{Member}
use Rattle.cns_depository.specs.Openings.{is_opening_of, issue_sum, opening_shares}
use Rattle.cns_depository.specs.Ranges.{up_to}

pub up_to-le : (n : ℕ) (f g : ℕ → ℕ) → ((m : ℕ) → f m ≤ g m) → up_to n f ≤ up_to n g
unfolding up_to
up_to-le zero f g less = less 0
up_to-le (suc n) f g less = omega (arith, up_to-le n f g less, less (suc n))

up_to-zero : (n : ℕ) (f : ℕ → ℕ) → ((m : ℕ) → f m ≡ 0) → up_to n f ≡ 0
unfolding up_to
up_to-zero zero f none = none 0
up_to-zero (suc n) f none = omega (arith, up_to-zero n f none, none (suc n))

up_to-add : (n : ℕ) (f g : ℕ → ℕ) → up_to n (λ m. f m + g m) ≡ up_to n f + up_to n g
unfolding up_to
up_to-add zero f g = refl
up_to-add (suc n) f g = omega (arith, up_to-add n f g)

-- more members have no less
pub up_to-more : (n k : ℕ) (f : ℕ → ℕ) → n ≤ k → up_to n f ≤ up_to k f
unfolding up_to
up_to-more zero zero f within = omega arith
up_to-more (suc n) zero f within = absurd (omega (arith, within))
up_to-more n (suc k) f within = ⊎_elim
    (λ all. let same : n ≡ suc k = omega (arith, all, within) in omega (arith, ap (λ i. up_to i f) same)) (λ few. omega (arith, up_to-more n k f few)) (cases_lt k n)

-- where one member's number grows, so does the sum, by no less
pub up_to-grows : (n k : ℕ) (f g : ℕ → ℕ) → k ≤ n → ((m : ℕ) → f m ≤ g m) → up_to n f + (g k - f k) ≤ up_to n g
unfolding up_to
up_to-grows zero zero f g within less = omega (arith, less 0)
up_to-grows zero (suc k) f g within less = absurd (omega (arith, within))
up_to-grows (suc n) k f g within less = ⊎_elim
    (λ last. let same : k ≡ suc n = omega (arith, last, within) in omega (arith, up_to-le n f g less, less (suc n), ap f same, ap g same))
    (λ before. omega (arith, up_to-grows n k f g before less, less (suc n))) (cases_lt n k)

-- a member's number is a part of the sum
up_to-has : (n k : ℕ) (f : ℕ → ℕ) → k ≤ n → f k ≤ up_to n f
up_to-has n k f within = let grows = up_to-grows n k (λ m. 0) f within (λ m. omega arith) in omega (arith, grows)

-- ---- the openings of an issue, by member

module _ (o : Opening) (issue : ℕ) where
  abbrev part : ℕ → ℕ
  part m = if is_opening_of m issue o then o.shares else 0

  abbrev whole : ℕ
  whole = if o.issue == issue then o.shares else 0

  part_le : (a : Bool) → (b : Bool) → (if a && b then o.shares else 0) ≤ (if b then o.shares else 0)
  part_le a b = grind arith

  part_none : (m : ℕ) → (o.member == m) ≡ false → part m ≡ 0
  part_none m other = rw other refl

  -- an opening is of one member
  one_part : (n : ℕ) → (up_to n part ≤ whole) × (n < o.member → up_to n part ≡ 0)
  unfolding up_to
  one_part zero = (part_le (o.member == 0) (o.issue == issue), λ more. part_none 0 (ne_eqb o.member 0 (λ e. omega (arith, more, e))))
  one_part (suc n) = let before = one_part n in by_bool (o.member == suc n)
      (λ is.
      let here : o.member ≡ suc n = eqb-true o.member (suc n) is in
      (omega (arith, before.1 (omega (arith, here)), part_le (o.member == suc n) (o.issue == issue)), λ more. absurd (omega (arith, more, here))))
      (λ other. let none = part_none (suc n) other in (omega (arith, before.0, none), λ more. omega (arith, before.1 (omega (arith, more)), none)))

  part_here : part o.member ≡ whole
  part_here = rw (eq-eqb o.member o.member refl) refl

-- the members' openings are no more than all
pub opens_up_to : (n : ℕ) (openings : List Opening) (issue : ℕ) → up_to n (λ m. opening_shares openings (Member m) issue) ≤ issue_sum openings issue
unfolding issue_sum
opens_up_to n [] issue = omega (arith, up_to-zero n (λ m. opening_shares [] (Member m) issue) (λ m. refl))
opens_up_to n (o ∷ openings) issue =
    let rest : ℕ → ℕ = λ m. opening_shares openings (Member m) issue in
    let cons : (m : ℕ) → opening_shares (o ∷ openings) (Member m) issue ≤ part o issue m + rest m =
    λ m. omega (arith, sum_by-cons (λ (x : Opening). if is_opening_of m issue x then x.shares else 0) o openings) in
    let all = up_to-le n (λ m. opening_shares (o ∷ openings) (Member m) issue) (λ m. part o issue m + rest m) cons in
    let sums = sum_by-cons (λ (x : Opening). if x.issue == issue then x.shares else 0) o openings in
    omega (arith, all, up_to-add n (part o issue) rest, (one_part o issue n).0, opens_up_to n openings issue, sums)

-- and are all of them, up to some member
pub opens_all : (openings : List Opening) → (n : ℕ) × ((issue : ℕ) → issue_sum openings issue ≤ up_to n (λ m. opening_shares openings (Member m) issue))
unfolding issue_sum
opens_all [] = (0, λ issue. omega arith)
opens_all (o ∷ openings) =
    let before = opens_all openings in
    let n = max before.0 o.member in (
      n,
      λ issue.
          let rest : ℕ → ℕ = λ m. opening_shares openings (Member m) issue in
          let cons : (m : ℕ) → part o issue m + rest m ≤ opening_shares (o ∷ openings) (Member m) issue =
          λ m. omega (arith, sum_by-cons (λ (x : Opening). if is_opening_of m issue x then x.shares else 0) o openings) in
          let all = up_to-le n (λ m. part o issue m + rest m) (λ m. opening_shares (o ∷ openings) (Member m) issue) cons in
          let sums = sum_by-cons (λ (x : Opening). if x.issue == issue then x.shares else 0) o openings in
          omega (
            arith,
            all,
            up_to-add n (part o issue) rest,
            up_to-has n o.member (part o issue) (omega arith),
            part_here o issue,
            before.1 issue,
            up_to-more before.0 n rest (omega arith),
            sums,
          ),
    )

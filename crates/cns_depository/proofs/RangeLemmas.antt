-- The ranges of openings, as there are more records.
use Rattle.std.proofs.Common.{◌≡◌, ℕ, ◌+◌, ◌-◌, ◌^◌, ◌≤◌, ◌&&◌, Bool, true, false, List, [], ◌∷◌, arith, refl, ap, sym, ◌∙◌, subst}
use Rattle.std.specs.Prelude.{◌==◌, max, min, nat_lt}
use Rattle.std.proofs.lemmas.Bool.{and_parts, eqb-true, le-leb, ltb-false, ltb-true}
use Rattle.cns_journal.proofs.LayoutLemmas.{by_bool}
use Rattle.cns_depository.specs.declared.account.Side.{Side}
use Rattle.cns_records.specs.declared.dep_record.DepRecord.{DepRecord}
use Rattle.cns_records.specs.declared.dep_record.DepRecord.TheVariants.{Exec, Own}
use Rattle.cns_trades.specs.declared.opening.Opening.{Opening}
use Rattle.cns_depository.specs.declared.account.Account.{Account}
use Rattle.cns_depository.specs.declared.account.Account.TheVariants.{Cns, Member}
use Rattle.cns_depository.specs.declared.account.Side.TheVariants.{At, Outside}
use Rattle.cns_depository.specs.declared.place.Place.{Place}
use Rattle.cns_depository.specs.declared.ranges.Range.{Range}
use Rattle.cns_depository.specs.declared.fault.OwnRefusal.TheVariants.{IssueSum}
use Rattle.cns_depository.specs.Account.{giver, own_receiver, same_account, same_side}
use Rattle.cns_depository.specs.Least.{least}
use Rattle.cns_depository.specs.Openings.{issue_sum, opening_shares}
use Rattle.cns_depository.specs.Ranges.{AreOpeningsOf, AreRanges, IsDemanded, IsLimited, first_range, is_met, issue_place, least_sum, place_of, takes_all}
use Rattle.cns_depository.specs.Stock.{brought_to, held_in, moved_in, moved_out, taken_from, transfer_of}
use Rattle.cns_depository.proofs.LeastLemmas.{all_taken, brought_other, held_is, least_before, least_is, least_lawful, least_same, taken_here}
use Rattle.cns_depository.proofs.MemberSums.{opens_up_to, up_to-grows, up_to-le, up_to-more}
use Rattle.cns_depository.proofs.MovementLemmas.{by_sort, equal_accounts, none_refused, same_At}
use Rattle.cns_depository.proofs.OpeningLemmas.{member_small}
use Rattle.cns_depository.proofs.TotalLemmas.{at_place}

before : {e : DepRecord} {p : List DepRecord} {openings : List Opening} → AreOpeningsOf openings (e ∷ p) → AreOpeningsOf openings p
before are = record { fit = are.fit; lawful = are.lawful.1 }

-- what accounts must have opened with is no less with one more record
sum_before : (n : ℕ) (e : DepRecord) (p : List DepRecord) (issue : ℕ) → least_sum n p issue ≤ least_sum n (e ∷ p) issue
sum_before n e p issue =
    let all = up_to-le n (λ m. least p (Member m) issue) (λ m. least (e ∷ p) (Member m) issue) (λ m. least_before e p (Member m) issue) in
    omega (arith, all, least_before e p Cns issue)

-- and is more by what one of them must have opened with besides
sum_grows : (n : ℕ) (e : DepRecord) (p : List DepRecord) (a : Account) (issue : ℕ)
    → (k : ℕ) × (least_sum n p issue + (least (e ∷ p) a issue - least p a issue) ≤ least_sum k (e ∷ p) issue)
sum_grows n e p Cns issue =
    let all = up_to-le n (λ m. least p (Member m) issue) (λ m. least (e ∷ p) (Member m) issue) (λ m. least_before e p (Member m) issue) in
    (n, omega (arith, all, least_before e p Cns issue))
sum_grows n e p (Member m) issue =
    let k = max n m in
    let old : ℕ → ℕ = λ m. least p (Member m) issue in
    let new : ℕ → ℕ = λ m. least (e ∷ p) (Member m) issue in
    let grows = up_to-grows k m old new (omega arith) (λ m. least_before e p (Member m) issue) in
    (k, omega (arith, grows, up_to-more n k old (omega arith), least_before e p Cns issue))

-- no ranges are known of no records
first_least : (a : Account) → (first_range (At a)).least ≡ 0
first_least Cns = refl
first_least (Member m) = refl

first_most : (openings : List Opening) (a : Account) (issue : ℕ) → AreOpeningsOf openings [] → opening_shares openings a issue ≤ (first_range (At a)).most
first_most openings Cns issue are = omega arith
first_most openings (Member m) issue are = member_small openings m issue are.fit

pub ranges_first : AreRanges (λ k. first_range k.side) []
unfolding least
ranges_first = record {
  least_is = λ a issue. first_least a;
  sum_least = λ issue. (0, omega arith);
  most = λ openings are a issue. first_most openings a issue are;
  sum_most = λ openings are issue. are.fit issue;
}

pub ranges_same : (old new : Place → Range) (p : List DepRecord) → ((k : Place) → new k ≡ old k) → AreRanges old p → AreRanges new p
ranges_same old new p same are = record {
  least_is = λ a issue. ap (λ (r : Range). r.least) (same (place_of a issue)) ∙ are.least_is a issue;
  sum_least = λ issue. let was = are.sum_least issue in (was.0, omega (arith, was.1, ap (λ (r : Range). r.least) (same (issue_place issue))));
  most = λ openings of a issue. omega (arith, are.most openings of a issue, ap (λ (r : Range). r.most) (same (place_of a issue)));
  sum_most = λ openings of issue. omega (arith, are.sum_most openings of issue, ap (λ (r : Range). r.most) (same (issue_place issue)));
}

module _ (e : DepRecord) (p : List DepRecord) (old new : Place → Range) (ranges : AreRanges old p) where
  -- an account gives: it must have opened with what it then gave besides what was brought to it
  module _ (a : Account) (issue needed : ℕ) (exactly : Bool) (demanded : IsDemanded a issue needed exactly old new) (from : (transfer_of e).giver ≡ At a)
      (of : (transfer_of e).issue ≡ issue) (need : needed ≡ moved_out (e ∷ p) a issue - moved_in (e ∷ p) a issue)
      (all : exactly ≡ true → (openings : List Opening) → AreOpeningsOf openings (e ∷ p) → opening_shares openings a issue ≤ needed) where
    apart : (b : Account) (i : ℕ) → (same_account a b && (issue == i)) ≡ false → new (place_of b i) ≡ old (place_of b i)
    apart b i other = demanded.others (place_of b i) (at_place (At a) (At b) issue i ∙ other) (at_place Outside (At b) issue i)

    sum_apart : (i : ℕ) → (issue == i) ≡ false → new (issue_place i) ≡ old (issue_place i)
    sum_apart i other = demanded.others (issue_place i) (at_place (At a) Outside issue i) (at_place Outside Outside issue i ∙ other)

    -- the account and the issue of the record, or others
    at_both : (P : Account → ℕ → Type 0) (b : Account) (i : ℕ) → P a issue → ((same_account a b && (issue == i)) ≡ false → P b i) → P b i
    at_both P b i here there = by_bool (same_account a b && (issue == i))
        (λ is. let both = and_parts (same_account a b) (issue == i) is in
        subst (λ j. P b j) (eqb-true issue i both.1) (subst (λ c. P c issue) (equal_accounts a b both.0) here)) there

    least_demanded : (b : Account) (i : ℕ) → (new (place_of b i)).least ≡ least (e ∷ p) b i
    least_demanded b i = at_both (λ c j. (new (place_of c j)).least ≡ least (e ∷ p) c j) b i
        (omega (arith, ap (λ (r : Range). r.least) demanded.place, ranges.least_is a issue, need, least_is e p a issue))
        (λ other. ap (λ (r : Range). r.least) (apart b i other) ∙ ranges.least_is b i ∙ sym (least_same e p b i (rw (from, of) other)))

    sum_demanded : (i : ℕ) → (n : ℕ) × ((new (issue_place i)).least ≤ least_sum n (e ∷ p) i)
    sum_demanded i = by_bool (issue == i)
        (λ is.
        let was = ranges.sum_least issue in
        let grows = sum_grows was.0 e p a issue in
        subst (λ j. (n : ℕ) × ((new (issue_place j)).least ≤ least_sum n (e ∷ p) j)) (eqb-true issue i is)
        (grows.0, omega (arith, was.1, grows.1, ap (λ (r : Range). r.least) demanded.sum, ranges.least_is a issue, need, least_is e p a issue)))
        (λ other. let was = ranges.sum_least i in (was.0, omega (arith, was.1, sum_before was.0 e p i, ap (λ (r : Range). r.least) (sum_apart i other))))

    most_demanded : (openings : List Opening) → AreOpeningsOf openings (e ∷ p) → (b : Account) (i : ℕ) → opening_shares openings b i ≤ (new (place_of b i)).most
    most_demanded openings are b i = at_both (λ c j. opening_shares openings c j ≤ (new (place_of c j)).most) b i (most exactly refl)
        (λ other. omega (arith, ap (λ (r : Range). r.most) (apart b i other), ranges.most openings (before are) b i))
      where
        most : (t : Bool) → exactly ≡ t → opening_shares openings a issue ≤ (new (place_of a issue)).most
        most true is =
            let narrow : (new (place_of a issue)).most ≡ min (old (place_of a issue)).most needed = ap (λ (r : Range). r.most) demanded.place ∙ rw is refl in
            omega (arith, narrow, ranges.most openings (before are) a issue, all is openings are)
        most false is =
            let same : (new (place_of a issue)).most ≡ (old (place_of a issue)).most = ap (λ (r : Range). r.most) demanded.place ∙ rw is refl in
            omega (arith, same, ranges.most openings (before are) a issue)

    sum_most_demanded : (openings : List Opening) → AreOpeningsOf openings (e ∷ p) → (i : ℕ) → issue_sum openings i ≤ (new (issue_place i)).most
    sum_most_demanded openings are i = by_bool (issue == i)
        (λ is. subst (λ j. issue_sum openings j ≤ (new (issue_place j)).most) (eqb-true issue i is)
        (omega (arith, ap (λ (r : Range). r.most) demanded.sum, ranges.sum_most openings (before are) issue)))
        (λ other. omega (arith, ap (λ (r : Range). r.most) (sum_apart i other), ranges.sum_most openings (before are) i))

    pub ranges_demanded : AreRanges new (e ∷ p)
    ranges_demanded = record { least_is = least_demanded; sum_least = sum_demanded; most = most_demanded; sum_most = sum_most_demanded }

  -- shares come from outside: there is a limit to what all accounts opened with
  module _ (issue limit : ℕ) (limited : IsLimited issue limit old new) (from : (transfer_of e).giver ≡ Outside)
      (fits : (openings : List Opening) → AreOpeningsOf openings (e ∷ p) → issue_sum openings issue ≤ limit) where
    stays : (b : Account) (i : ℕ) → new (place_of b i) ≡ old (place_of b i)
    stays b i = limited.others (place_of b i) (at_place Outside (At b) issue i)

    sum_stays : (i : ℕ) → (issue == i) ≡ false → new (issue_place i) ≡ old (issue_place i)
    sum_stays i other = limited.others (issue_place i) (at_place Outside Outside issue i ∙ other)

    pub ranges_limited : AreRanges new (e ∷ p)
    ranges_limited = record {
      least_is = λ b i.
          let other : (same_side (transfer_of e).giver (At b) && ((transfer_of e).issue == i)) ≡ false = rw from refl in
          ap (λ (r : Range). r.least) (stays b i) ∙ ranges.least_is b i ∙ sym (least_same e p b i other);
      sum_least = λ i. by_bool (issue == i)
          (λ is. let was = ranges.sum_least issue in
          subst (λ j. (n : ℕ) × ((new (issue_place j)).least ≤ least_sum n (e ∷ p) j)) (eqb-true issue i is)
          (was.0, omega (arith, was.1, sum_before was.0 e p issue, ap (λ (r : Range). r.least) limited.sum)))
          (λ other. let was = ranges.sum_least i in (was.0, omega (arith, was.1, sum_before was.0 e p i, ap (λ (r : Range). r.least) (sum_stays i other))));
      most = λ openings are b i. omega (arith, ap (λ (r : Range). r.most) (stays b i), ranges.most openings (before are) b i);
      sum_most = λ openings are i. by_bool (issue == i)
          (λ is. subst (λ j. issue_sum openings j ≤ (new (issue_place j)).most) (eqb-true issue i is)
          (omega (arith, ap (λ (r : Range). r.most) limited.sum, ranges.sum_most openings (before are) issue, fits openings are)))
          (λ other. omega (arith, ap (λ (r : Range). r.most) (sum_stays i other), ranges.sum_most openings (before are) i));
    }

-- ---- where a range is empty there are no openings

module _ (ranges : Place → Range) (p : List DepRecord) (are : AreRanges ranges p) (openings : List Opening) (of : AreOpeningsOf openings p) where
  pub account_met : (a : Account) (issue : ℕ) → is_met (ranges (place_of a issue)) ≡ true
  account_met a issue = le-leb _ _ (omega (arith, are.least_is a issue, least_lawful openings p a issue of.lawful, are.most openings of a issue))

  pub issue_met : (issue : ℕ) → is_met (ranges (issue_place issue)) ≡ true
  issue_met issue =
      let was = are.sum_least issue in
      let members = up_to-le was.0 (λ m. least p (Member m) issue) (λ m. opening_shares openings (Member m) issue) (λ m. least_lawful openings p (Member m) issue of.lawful) in
      le-leb _ _ (omega (arith, was.1, members, least_lawful openings p Cns issue of.lawful, opens_up_to was.0 openings issue, are.sum_most openings of issue))

-- ---- what a record says

-- a deposit tells with how many shares all accounts opened at most
pub deposit_limit : (e : DepRecord) (p : List DepRecord) (openings : List Opening) → AreOpeningsOf openings (e ∷ p) → (transfer_of e).giver ≡ Outside
    → issue_sum openings (transfer_of e).issue ≤ (10 ^ 18 + brought_to (e ∷ p) Outside (transfer_of e).issue) - taken_from (e ∷ p) Outside (transfer_of e).issue
deposit_limit (Exec o moved) p openings are from = absurd cc
deposit_limit (Own i) p openings are from = by_sort i.sort
    (λ deposit.
    let takes : own_receiver i ≡ At (Member i.member) = rw deposit refl in
    let fits = ltb-false (10 ^ 18) (held_in openings p i.issue + i.shares) (none_refused IssueSum (nat_lt (10 ^ 18) (held_in openings p i.issue + i.shares)) (rw deposit at are.lawful.0.may)) in
    omega (
      arith,
      fits,
      held_is openings p i.issue,
      taken_here (Own i) p Outside i.issue from refl,
      brought_other (Own i) p Outside i.issue (ap (λ (s : Side). same_side s Outside) takes),
    ))
    (λ withdraw. let none : At (Member i.member) ≡ Outside = rw withdraw at from in absurd cc)

-- one that gives all that it had tells with how many its giver opened
pub taken_all : (e : DepRecord) (p : List DepRecord) (a : Account) (openings : List Opening) → takes_all e ≡ true → (transfer_of e).giver ≡ At a → AreOpeningsOf openings (e ∷ p)
    → opening_shares openings a (transfer_of e).issue ≤ moved_out (e ∷ p) a (transfer_of e).issue - moved_in (e ∷ p) a (transfer_of e).issue
taken_all (Own i) p a openings all from are = absurd cc
taken_all (Exec o moved) p a openings all from are =
    let same : giver o ≡ a = same_At (giver o) a from in
    let least = all_taken openings p o moved (ltb-true moved o.asked all) are.lawful in
    subst (λ (x : Account). opening_shares openings x o.issue ≤ moved_out (Exec o moved ∷ p) x o.issue - moved_in (Exec o moved ∷ p) x o.issue) same least

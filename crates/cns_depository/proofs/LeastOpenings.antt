-- The openings that ranges begin with.
use Rattle.std.proofs.Common.{⊎_elim, ◌≡◌, ℕ, ◌+◌, ◌^◌, ◌≤◌, ◌&&◌, Bool, true, false, List, [], ◌∷◌, ◌++◌, Option, Some, None, arith, refl, ap, sym, ◌∙◌, subst}
use Rattle.std.specs.Prelude.{◌==◌, nat_le, nat_lt, if◌then◌else◌}
use Rattle.std.specs.List.{AllByRecursion, cons_option, filter_map, fold, IsDistinct, list_any}
use Rattle.std.specs.Map.{keys_of, lookup}
use Rattle.std.proofs.lemmas.Bool.{both_ways, cases_Bool, eq-eqb, false_from_ne_true, le-ltb, ltb-false}
use Rattle.std.proofs.lemmas.Bool.Decides.{nat_tests}
use Rattle.std.proofs.lemmas.Option.{none-some, same_Some}
use Rattle.std.proofs.lemmas.List.{append_assoc, append-nil}
use Rattle.std.proofs.lemmas.List.Elements.{filter_map-append}
use Rattle.std.proofs.lemmas.List.Sums.{sum_by-append, sum_by-cons}
use Rattle.cns_records.specs.declared.dep_record.DepRecord.{DepRecord}
use Rattle.cns_trades.specs.declared.opening.Opening.{Opening}
use Rattle.cns_depository.specs.declared.account.Account.TheVariants.{Cns, Member}
use Rattle.cns_depository.specs.declared.account.Side.{Side}
use Rattle.cns_depository.specs.declared.account.Side.TheVariants.{At, Outside}
use Rattle.cns_depository.specs.declared.place.Place.{Place}
use Rattle.cns_depository.specs.declared.ranges.Range.{Range}
use Rattle.cns_depository.specs.Least.{least}
use Rattle.cns_depository.specs.declared.openings.OpeningFault.{OpeningFault}
use Rattle.cns_depository.specs.declared.openings.OpeningFault.TheVariants.{Double, IssueSum}
use Rattle.cns_depository.specs.Openings.{DoIssuesFit, is_opening_of, issue_sum, opening_fault, opening_shares}
use Rattle.cns_depository.specs.Ranges.{AreEnough, AreOpeningsOf, AreRanges, least_at, least_opening, place_of, range_by, standing, with_opening}
use Rattle.cns_depository.specs.Totals.{place_eq}
use Rattle.cns_depository.proofs.LeastLemmas.{least_lawful, own_side}
use Rattle.cns_depository.proofs.MemberSums.{opens_all, opens_up_to, up_to-le}
use Rattle.cns_depository.proofs.OpeningLemmas.{fits_more, member_small, shares_its, shares_other}
use Rattle.cns_depository.proofs.TotalLemmas.{at_place, equal_places}

abbrev opens : List (Place × Range) → List Opening
opens entries = filter_map least_opening entries

-- shares with which a member may open; else none
abbrev clipped : ℕ → ℕ
clipped n = if nat_lt 0 n && nat_le n (10 ^ 18) then n else 0

clipped_le : (n : ℕ) → clipped n ≤ n
clipped_le n = grind arith

clipped_is : (n : ℕ) → n ≤ 10 ^ 18 → clipped n ≡ n
clipped_is n small = grind (arith, nat_tests)

own_place : (k : Place) → place_eq k k ≡ true
own_place k = at_place k.side k.side k.issue k.issue ∙ rw (own_side k.side, eq-eqb k.issue k.issue refl) refl

-- places differ either way
turned : (a b : Place) → place_eq a b ≡ false → place_eq b a ≡ false
turned a b other = false_from_ne_true (place_eq b a) (λ is. both_ways (place_eq a b) other (ap (λ k. place_eq a k) (equal_places b a is) ∙ own_place a))

-- the opening of an entry is that of a member in an issue where its place is: what passes over an opening of another passes over it
other_part : {X : Type 0} (F : List Opening → X) (m i : ℕ) → ((o : Opening) (rest : List Opening) → is_opening_of m i o ≡ false → F (o ∷ rest) ≡ F rest)
    → (issue : ℕ) (side : Side) (n : ℕ) (rest : List Opening) → place_eq (record { issue = issue; side = side }) (place_of (Member m) i) ≡ false
    → F (cons_option (least_at issue side n) rest) ≡ F rest
other_part F m i over issue Outside n rest other = refl
other_part F m i over issue (At Cns) n rest other = refl
other_part F m i over issue (At (Member k)) n rest other = ⊎_elim
    (λ e. rw e (over (record { member = k; issue = issue; shares = n }) rest (sym (at_place (At (Member k)) (At (Member m)) issue i) ∙ other))) (λ e. rw e refl)
    (cases_Bool (nat_lt 0 n && nat_le n (10 ^ 18)))

own_part : (k : Place) (n m i : ℕ) (rest : List Opening) → place_eq k (place_of (Member m) i) ≡ false
    → opening_shares (cons_option (least_at k.issue k.side n) rest) (Member m) i ≡ opening_shares rest (Member m) i
own_part k n m i rest other = other_part (λ os. opening_shares os (Member m) i) m i (λ o os. shares_other o os m i) k.issue k.side n rest other

its_part : (n m i : ℕ) (rest : List Opening) → opening_shares (cons_option (least_at i (At (Member m)) n) rest) (Member m) i ≡ clipped n + opening_shares rest (Member m) i
its_part n m i rest =
    let its = sym (at_place (At (Member m)) (At (Member m)) i i) ∙ own_place (place_of (Member m) i) in
    ⊎_elim (λ e. rw e (shares_its (record { member = m; issue = i; shares = n }) rest m i its)) (λ e. rw e (omega arith)) (cases_Bool (nat_lt 0 n && nat_le n (10 ^ 18)))

-- keys that are all others than a place
abbrev Apart : Place → List (Place × Range) → Type 0
Apart k entries = AllByRecursion (λ (y : Place). place_eq k y ≡ false) (keys_of entries)

none_of : (entries : List (Place × Range)) (m i : ℕ) → Apart (place_of (Member m) i) entries → opening_shares (opens entries) (Member m) i ≡ 0
none_of [] m i apart = refl
none_of ((k, r) ∷ rest) m i apart = own_part k r.least m i (opens rest) (turned (place_of (Member m) i) k apart.0) ∙ none_of rest m i apart.1

-- each member opens with what its range begins with
shares_in : (entries : List (Place × Range)) → IsDistinct place_eq (keys_of entries) → (m i : ℕ)
    → opening_shares (opens entries) (Member m) i ≡ clipped (range_by (place_of (Member m) i) (lookup (place_eq (place_of (Member m) i)) entries)).least
unfolding IsDistinct
shares_in [] distinct m i = refl
shares_in ((k, r) ∷ rest) distinct m i =
    let its : Place = place_of (Member m) i in
    ⊎_elim
    (λ is.
    let same : k ≡ its = sym (equal_places its k is) in
    let none : opening_shares (opens rest) (Member m) i ≡ 0 = none_of rest m i (subst (λ (x : Place). Apart x rest) same distinct.0) in
    let here : opening_shares (opens ((k, r) ∷ rest)) (Member m) i ≡ clipped r.least + opening_shares (opens rest) (Member m) i =
    subst (λ (x : Place). opening_shares (opens ((x, r) ∷ rest)) (Member m) i ≡ clipped r.least + opening_shares (opens rest) (Member m) i) (sym same) (its_part r.least m i (opens rest)) in
    rw is (omega (arith, here, none)))
    (λ other. rw other (own_part k r.least m i (opens rest) (turned its k other) ∙ shares_in rest distinct.1 m i))
    (cases_Bool (place_eq its k))

-- ---- each of them stands behind those before it

distinct_before : (xs : List (Place × Range)) (e : Place × Range) (ys : List (Place × Range)) → IsDistinct place_eq (keys_of (xs ++ e ∷ ys))
    → AllByRecursion (λ (x : Place). place_eq x e.0 ≡ false) (keys_of xs)
unfolding IsDistinct
distinct_before [] e ys distinct = tt
distinct_before (x ∷ xs) e ys distinct = (at_last (λ y. place_eq x.0 y ≡ false) xs distinct.0, distinct_before xs e ys distinct.1)
  where
    at_last : (P : Place → Type 0) (zs : List (Place × Range)) → AllByRecursion P (keys_of (zs ++ e ∷ ys)) → P e.0
    at_last P [] all = all.0
    at_last P (z ∷ zs) all = at_last P zs all.1

not_held : (done : List (Place × Range)) (m i : ℕ) → AllByRecursion (λ (x : Place). place_eq x (place_of (Member m) i) ≡ false) (keys_of done)
    → list_any (is_opening_of m i) (opens done) ≡ false
not_held [] m i apart = refl
not_held ((k, r) ∷ rest) m i apart =
    other_part (list_any (is_opening_of m i)) m i (λ o os other. rw other refl) k.issue k.side r.least (opens rest) apart.0 ∙ not_held rest m i apart.1

-- an entry whose opening is this one has its place
opening_place : (issue : ℕ) (side : Side) (n : ℕ) (o : Opening) → least_at issue side n ≡ Some o → record { issue = issue; side = side } ≡ place_of (Member o.member) o.issue
opening_place issue Outside n o is = absurd cc
opening_place issue (At Cns) n o is = absurd cc
opening_place issue (At (Member m)) n o is = ⊎_elim
    (λ e. ap (λ (x : Opening). place_of (Member x.member) x.issue) (same_Some (record { member = m; issue = issue; shares = n }) o (rw e at is))) (λ e. absurd (none-some o (rw e at is)))
    (cases_Bool (nat_lt 0 n && nat_le n (10 ^ 18)))

sum_with : (xs : List Opening) (o : Opening) (ys : List Opening) → issue_sum xs o.issue + o.shares ≤ issue_sum (xs ++ o ∷ ys) o.issue
unfolding issue_sum
sum_with xs o ys =
    let f : Opening → ℕ = λ (x : Opening). if x.issue == o.issue then x.shares else 0 in
    let own : f o ≡ o.shares = rw (eq-eqb o.issue o.issue refl) refl in
    omega (arith, sum_by-append f xs (o ∷ ys), sum_by-cons f o ys, own)

-- where no member and issue comes twice, and the sums fit, each opening stands behind the others
stands_all : (done entries : List (Place × Range)) → IsDistinct place_eq (keys_of (done ++ entries)) → ((i : ℕ) → issue_sum (opens (done ++ entries)) i ≤ 10 ^ 18)
    → fold with_opening (opens done) (opens entries) ≡ opens (done ++ entries)
stands_all done [] distinct fit = ap opens (sym (append-nil done))
stands_all done (e ∷ rest) distinct fit =
    by (least_opening e) refl
    (stands_all (done ++ e ∷ []) rest (subst (λ (all : List (Place × Range)). IsDistinct place_eq (keys_of all)) (sym whole) distinct)
    (λ i. omega (arith, fit i, ap (λ (all : List (Place × Range)). issue_sum (opens all) i) whole)))
  where
    whole : (done ++ e ∷ []) ++ rest ≡ done ++ e ∷ rest
    whole = append_assoc done (e ∷ []) rest

    by : (found : Option Opening) → least_opening e ≡ found → fold with_opening (opens (done ++ e ∷ [])) (opens rest) ≡ opens ((done ++ e ∷ []) ++ rest)
        → fold with_opening (opens done) (cons_option found (opens rest)) ≡ opens (done ++ e ∷ rest)
    by None is more =
        let same : opens (done ++ e ∷ []) ≡ opens done =
        filter_map-append least_opening done (e ∷ []) ∙ ap (λ (o : Option Opening). opens done ++ cons_option o []) is ∙ append-nil (opens done) in
        ap (λ (held : List Opening). fold with_opening held (opens rest)) (sym same) ∙ more ∙ ap opens whole
    by (Some o) is more =
        let place = opening_place e.0.issue e.0.side e.1.least o is in
        let apart = subst (λ (k : Place). AllByRecursion (λ (x : Place). place_eq x k ≡ false) (keys_of done)) place (distinct_before done e rest distinct) in
        let new = not_held done o.member o.issue apart in
        let all : opens (done ++ e ∷ rest) ≡ opens done ++ o ∷ opens rest =
        filter_map-append least_opening done (e ∷ rest) ∙ ap (λ (f : Option Opening). opens done ++ cons_option f (opens rest)) is in
        let fits : issue_sum (opens done) o.issue + o.shares ≤ 10 ^ 18 =
        omega (arith, sum_with (opens done) o (opens rest), fit o.issue, ap (λ (xs : List Opening). issue_sum xs o.issue) all) in
        let stands : opening_fault (opens done) o ≡ None = rw (new, le-ltb (10 ^ 18) (issue_sum (opens done) o.issue + o.shares) fits) refl in
        let added : with_opening (opens done) o ≡ opens done ++ o ∷ [] = rw (with_opening, stands) refl in
        let same : opens (done ++ e ∷ []) ≡ opens done ++ o ∷ [] =
        filter_map-append least_opening done (e ∷ []) ∙ ap (λ (f : Option Opening). opens done ++ cons_option f []) is in
        ap (λ (held : List Opening). fold with_opening held (opens rest)) (added ∙ sym same) ∙ more ∙ ap opens whole

-- and the records that may stand with some openings need no more than these
pub least_enough : (entries : List (Place × Range)) (p : List DepRecord) (openings : List Opening) → IsDistinct place_eq (keys_of entries)
    → AreRanges (λ k. range_by k (lookup (place_eq k) entries)) p → AreOpeningsOf openings p → AreEnough (standing (opens entries)) openings p
least_enough entries p openings distinct ranges are =
    let shares : (m i : ℕ) → opening_shares (opens entries) (Member m) i ≡ clipped (least p (Member m) i) =
    λ m i. shares_in entries distinct m i ∙ ap clipped (ranges.least_is (Member m) i) in
    let small : (m i : ℕ) → least p (Member m) i ≤ opening_shares openings (Member m) i = λ m i. least_lawful openings p (Member m) i are.lawful in
    let fewer : (m i : ℕ) → opening_shares (opens entries) (Member m) i ≤ opening_shares openings (Member m) i =
    λ m i. omega (arith, shares m i, clipped_le (least p (Member m) i), small m i) in
    let members = opens_all (opens entries) in
    let sums : (i : ℕ) → issue_sum (opens entries) i ≤ issue_sum openings i =
    λ i.
    omega (
      arith,
      members.1 i,
      up_to-le members.0 (λ m. opening_shares (opens entries) (Member m) i) (λ m. opening_shares openings (Member m) i) (λ m. fewer m i),
      opens_up_to members.0 openings i,
    ) in
    let stands : standing (opens entries) ≡ opens entries = stands_all [] entries distinct (λ i. omega (arith, sums i, are.fit i)) in
    subst (λ (held : List Opening). AreEnough held openings p) (sym stands) (record {
      enough = λ m i. omega (arith, shares m i, clipped_is (least p (Member m) i) (omega (arith, small m i, member_small openings m i are.fit)));
      fewer = fewer;
      sums = sums;
    })

-- ---- openings that stand behind one another fit

no_fault : (a b : Bool) → ◌≡◌ {A = Option OpeningFault} (if a then Some Double else if b then Some IssueSum else None) None → b ≡ false
no_fault a b e = grind arith

fits_with : (held : List Opening) (o : Opening) (found : Option OpeningFault) → opening_fault held o ≡ found → DoIssuesFit held
    → DoIssuesFit (elim found [ None ↦ held ++ o ∷ [] | Some _ ↦ held ])
fits_with held o (Some fault) is fit = fit
fits_with held o None is fit =
    let small = no_fault (list_any (is_opening_of o.member o.issue) held) (nat_lt (10 ^ 18) (issue_sum held o.issue + o.shares)) is in
    fits_more held o fit (ltb-false (10 ^ 18) (issue_sum held o.issue + o.shares) small)

fits_all : (held list : List Opening) → DoIssuesFit held → DoIssuesFit (fold with_opening held list)
fits_all held [] fit = fit
fits_all held (o ∷ list) fit = fits_all (with_opening held o) list (fits_with held o (opening_fault held o) refl fit)

none_fit : DoIssuesFit []
unfolding issue_sum
none_fit issue = omega arith

pub standing_fits : (list : List Opening) → DoIssuesFit (standing list)
standing_fits list = fits_all [] list none_fit

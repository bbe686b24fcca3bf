-- The index of the openings as they are added.
use Rattle.std.proofs.Common.{⊎_elim, ◌≡◌, ℕ, zero, suc, ◌+◌, ◌^◌, ◌<◌, ◌≤◌, length, get_or, Bool, true, false, ◌&&◌, ◌||◌, List, [], ◌∷◌, ◌++◌, Option, Some, None, refl, sym, ap, ◌∙◌, subst, arith}
use Rattle.std.specs.Prelude.{map, unwrap_or, if◌then◌else◌, ◌==◌, is_some}
use Rattle.std.specs.List.{AllByRecursion, IsDistinct, list_any}
use Rattle.std.specs.Set.{is_member}
use Rattle.std.proofs.lemmas.Bool.{cases_Bool, eqb-true, or_parts}
use Rattle.std.proofs.lemmas.Cmp.{nat_eq_equiv}
use Rattle.std.proofs.lemmas.List.{length-map, map_push}
use Rattle.std.proofs.lemmas.List.Folds.{list_any-append}
use Rattle.std.proofs.lemmas.List.Sums.{sum_by-cons, sum_by-append}
use Rattle.std.proofs.lemmas.Map.Keys.{apart_from_distinct, IsDistinct-head, IsDistinct-push, IsDistinct-tail}
use Rattle.std.proofs.Math.ListN.{get_or-map}
use Rattle.cns_trades.specs.declared.opening.Opening.{Opening}
use Rattle.cns_depository.specs.declared.account.Account.{Account}
use Rattle.cns_depository.specs.declared.account.Account.TheVariants.{Cns, Member}
use Rattle.cns_depository.specs.declared.account.Side.TheVariants.{At}
use Rattle.cns_depository.specs.declared.place.Place.{Place}
use Rattle.cns_ids.specs.Holding.{holding_at}
use Rattle.cns_ids.specs.declared.holding.Holding.{Holding}
use Rattle.cns_depository.specs.Openings.{is_opening_of, issue_sum, opening_shares}
use Rattle.cns_depository.specs.OpeningIndex.{opened_with, IsIndex}
use Rattle.cns_depository.specs.Places.{is_opened, opened_place}
use Rattle.cns_depository.specs.Totals.{place_eq}
use Rattle.cns_depository.proofs.OpeningLemmas.{fits_more, issue_sum-more, opening_is, shares_its, shares_other}
use Rattle.cns_depository.proofs.PlaceLemmas.{place_equivalence}
use Rattle.cns_depository.proofs.TotalLemmas.{at_place}

-- a member that has no opening in an issue opens with nothing there
closed_none : (xs : List Opening) (m i : ℕ) → list_any (is_opening_of m i) xs ≡ false → opening_shares xs (Member m) i ≡ 0
closed_none [] m i closed = refl
closed_none (o ∷ xs) m i closed = let both = or_parts (is_opening_of m i o) (list_any (is_opening_of m i) xs) closed in shares_other o xs m i both.0 ∙ closed_none xs m i both.1

-- ---- the places that openings name

-- an opening is of a member and issue exactly where it names their place
same_opening : (m i : ℕ) (o : Opening) → place_eq (record { issue = i; side = At (Member m) }) (opened_place o) ≡ is_opening_of m i o
same_opening m i o =
    at_place (At (Member m)) (At (Member o.member)) i o.issue ∙ ap (λ (b : Bool). b && (i == o.issue)) (nat_eq_equiv.symm m o.member)
    ∙ ap (λ (b : Bool). (o.member == m) && b) (nat_eq_equiv.symm i o.issue)

pub opened_member : (xs : List Opening) (m i : ℕ) → is_opened xs (record { issue = i; side = At (Member m) }) ≡ list_any (is_opening_of m i) xs
opened_member [] m i = refl
opened_member (o ∷ xs) m i =
    ap (λ (b : Bool). b || is_opened xs (record { issue = i; side = At (Member m) })) (same_opening m i o) ∙ ap (λ (b : Bool). is_opening_of m i o || b) (opened_member xs m i)

-- no opening names the CNS account
pub cns_unopened : (xs : List Opening) (i : ℕ) → is_opened xs (record { issue = i; side = At Cns }) ≡ false
cns_unopened [] i = refl
cns_unopened (o ∷ xs) i =
    ap (λ (b : Bool). b || is_opened xs (record { issue = i; side = At Cns })) (at_place (At Cns) (At (Member o.member)) i o.issue) ∙ cns_unopened xs i

-- an account that no opening names opens with nothing
pub unopened_none : (xs : List Opening) (a : Account) (i : ℕ) → is_opened xs (record { issue = i; side = At a }) ≡ false → opening_shares xs a i ≡ 0
unopened_none xs Cns i other = refl
unopened_none xs (Member m) i other = closed_none xs m i (sym (opened_member xs m i) ∙ other)

no_member : (k : Place) (ks : List Place) → AllByRecursion (λ y. place_eq k y ≡ false) ks → is_member place_eq ks k ≡ false
no_member k [] all = refl
no_member k (x ∷ xs) all = ap (λ (b : Bool). b || is_member place_eq xs k) all.0 ∙ no_member k xs all.1

-- where no two openings name one place, a member opens with the shares of its opening
pub opened_alone : (os : List Opening) (i : ℕ) (d : Opening) → IsDistinct place_eq (map opened_place os) → i < length os
    → opening_shares os (Member (get_or os i d).member) (get_or os i d).issue ≡ (get_or os i d).shares
opened_alone [] i d distinct within = absurd (omega (arith, within))
opened_alone (o ∷ os) zero d distinct within =
    let its : is_opening_of o.member o.issue o ≡ true = sym (same_opening o.member o.issue o) ∙ place_equivalence.refl (opened_place o) in
    let alone = no_member (opened_place o) (map opened_place os) (IsDistinct-head place_eq (opened_place o) (map opened_place os) distinct) in
    let others : opening_shares os (Member o.member) o.issue ≡ 0 = unopened_none os (Member o.member) o.issue alone in
    omega (arith, shares_its o os o.member o.issue its, others)
opened_alone (o ∷ os) (suc i) d distinct within =
    let x = get_or os i d in
    let apart : place_eq (opened_place o) (get_or (map opened_place os) i (opened_place d)) ≡ false =
    apart_from_distinct place_eq (map opened_place (o ∷ os)) 0 (suc i) (opened_place d) distinct (omega arith) (omega (arith, within, length-map (o ∷ os) opened_place)) in
    let other : is_opening_of x.member x.issue o ≡ false =
    sym (same_opening x.member x.issue o) ∙ place_equivalence.symm (opened_place x) (opened_place o) ∙ ap (place_eq (opened_place o)) (sym (get_or-map opened_place os i d)) ∙ apart in
    shares_other o os x.member x.issue other ∙ opened_alone os i d (IsDistinct-tail place_eq (opened_place o) (map opened_place os) distinct) (omega (arith, within))

-- ---- the index

-- the shares that an index has are those of the openings
pub opened_shares : (xs : List Opening) (m i : ℕ) → unwrap_or (opened_with xs m i) 0 ≡ opening_shares xs (Member m) i
opened_shares xs m i = ⊎_elim (λ e. rw e refl) (λ e. rw e (sym (closed_none xs m i e))) (cases_Bool (list_any (is_opening_of m i) xs))

pub opened_known : (xs : List Opening) (m i : ℕ) → is_some (opened_with xs m i) ≡ list_any (is_opening_of m i) xs
opened_known xs m i = ⊎_elim (λ e. rw e refl) (λ e. rw e refl) (cases_Bool (list_any (is_opening_of m i) xs))

open-more : (xs : List Opening) (o : Opening) (m i : ℕ) → list_any (is_opening_of m i) (xs ++ o ∷ []) ≡ (list_any (is_opening_of m i) xs || is_opening_of m i o)
open-more xs o m i =
    list_any-append (is_opening_of m i) xs (o ∷ []) ∙ ap (λ (b : Bool). list_any (is_opening_of m i) xs || b) (grind arith)

shares-more : (xs : List Opening) (o : Opening) (m i : ℕ) → opening_shares (xs ++ o ∷ []) (Member m) i ≡ opening_shares xs (Member m) i + (if is_opening_of m i o then o.shares else 0)
shares-more xs o m i =
    let f : Opening → ℕ = λ (x : Opening). if is_opening_of m i x then x.shares else 0 in
    omega (arith, sum_by-append f xs (o ∷ []), sum_by-cons f o [])

-- one more opening, of a holding that was closed
opened-more : (xs : List Opening) (o : Opening) (m i : ℕ) → list_any (is_opening_of o.member o.issue) xs ≡ false
    → opened_with (xs ++ o ∷ []) m i ≡ (if is_opening_of m i o then Some o.shares else opened_with xs m i)
opened-more xs o m i closed = rw (open-more xs o m i, shares-more xs o m i) (⊎_elim
    (λ its.
    let is = opening_is o m i its in
    let here : list_any (is_opening_of m i) xs ≡ false = ap (λ (x : ℕ). list_any (is_opening_of x i) xs) (sym is.0) ∙ ap (λ (x : ℕ). list_any (is_opening_of o.member x) xs) (sym is.1) ∙ closed in
    rw (its, here) (ap (λ (n : ℕ). Some n) (omega (arith, closed_none xs m i here))))
    (λ other.
    let closed_too : (list_any (is_opening_of m i) xs || false) ≡ list_any (is_opening_of m i) xs = grind arith in
    let same : opening_shares xs (Member m) i + 0 ≡ opening_shares xs (Member m) i = omega arith in
    rw other (λ k. if closed_too k then Some (same k) else None))
    (cases_Bool (is_opening_of m i o)))

pub index_none : (held : Holding → Option ℕ) (sums : ℕ → Option ℕ) → ((k : Holding) → held k ≡ None) → ((i : ℕ) → sums i ≡ None) → IsIndex [] held sums
unfolding issue_sum IsDistinct
index_none held sums no_held no_sums = record {
  fits = λ i. omega arith;
  places = tt;
  held_is = λ m i. no_held (holding_at i m);
  sum_is = λ i. ap (λ (s : Option ℕ). unwrap_or s 0) (no_sums i);
}

pub index_kept : (xs xs' : List Opening) (held held' : Holding → Option ℕ) (sums sums' : ℕ → Option ℕ) → IsIndex xs held sums → xs' ≡ xs
    → ((k : Holding) → held' k ≡ held k) → ((i : ℕ) → sums' i ≡ sums i) → IsIndex xs' held' sums'
index_kept xs xs' held held' sums sums' n list same_held same_sums = subst (λ (l : List Opening). IsIndex l held' sums') (sym list) (record {
  fits = n.fits;
  places = n.places;
  held_is = λ m i. same_held (holding_at i m) ∙ n.held_is m i;
  sum_is = λ i. ap (λ (s : Option ℕ). unwrap_or s 0) (same_sums i) ∙ n.sum_is i;
})

pub index_more : (xs : List Opening) (o : Opening) (held held' : Holding → Option ℕ) (sums sums' : ℕ → Option ℕ) → IsIndex xs held sums → list_any (is_opening_of o.member o.issue) xs ≡ false
    → issue_sum xs o.issue + o.shares ≤ 10 ^ 18
    → ((m i : ℕ) → held' (holding_at i m) ≡ (if is_opening_of m i o then Some o.shares else held (holding_at i m)))
    → ((i : ℕ) → unwrap_or (sums' i) 0 ≡ (if o.issue == i then issue_sum xs o.issue + o.shares else unwrap_or (sums i) 0))
    → IsIndex (xs ++ o ∷ []) held' sums'
index_more xs o held held' sums sums' n closed within new_held new_sums = record {
  fits = fits_more xs o n.fits within;
  places =
      subst (IsDistinct place_eq) (sym (map_push opened_place xs o))
      (IsDistinct-push place_equivalence (map opened_place xs) (opened_place o) n.places (opened_member xs o.member o.issue ∙ closed));
  held_is = λ m i.
      new_held m i ∙ ap (λ (s : Option ℕ). if is_opening_of m i o then Some o.shares else s) (n.held_is m i) ∙ sym (opened-more xs o m i closed);
  sum_is = λ i. new_sums i ∙ ⊎_elim (λ e. rw e (omega (arith, ap (issue_sum xs) (eqb-true o.issue i e)))) (λ e. rw e (omega (arith, n.sum_is i))) (cases_Bool (o.issue == i)) ∙ sym (issue_sum-more xs o i);
}

-- an opening that was refused neither as a double nor for its issue's sum
pub index_added : (xs ys zs : List Opening) (o : Opening) (held held1 held2 : Holding → Option ℕ) (sums sums1 sums2 : ℕ → Option ℕ) (sum : ℕ) → IsIndex xs held sums
    → ys ≡ xs → ((k : Holding) → held1 k ≡ held k) → ((i : ℕ) → sums1 i ≡ sums i)
    → is_some (held (holding_at o.issue o.member)) ≡ false → sum ≡ unwrap_or (sums o.issue) 0 + o.shares → sum ≤ 10 ^ 18
    → ((m i : ℕ) → held2 (holding_at i m) ≡ (if is_opening_of m i o then Some o.shares else held1 (holding_at i m)))
    → ((i : ℕ) → unwrap_or (sums2 i) 0 ≡ (if o.issue == i then sum else unwrap_or (sums1 i) 0))
    → zs ≡ ys ++ o ∷ [] → IsIndex zs held2 sums2
index_added xs ys zs o held held1 held2 sums sums1 sums2 sum n same_list same_held same_sums unknown sum_is within new_held new_sums list =
    let closed : list_any (is_opening_of o.member o.issue) xs ≡ false = sym (opened_known xs o.member o.issue) ∙ ap is_some (sym (n.held_is o.member o.issue)) ∙ unknown in
    let closed_now : list_any (is_opening_of o.member o.issue) ys ≡ false = ap (λ (l : List Opening). list_any (is_opening_of o.member o.issue) l) same_list ∙ closed in
    let before : issue_sum ys o.issue ≡ issue_sum xs o.issue = ap (λ (l : List Opening). issue_sum l o.issue) same_list in
    let total : sum ≡ issue_sum ys o.issue + o.shares = omega (arith, sum_is, before, n.sum_is o.issue) in
    let most : issue_sum ys o.issue + o.shares ≤ 10 ^ 18 = omega (arith, total, within) in
    subst (λ (l : List Opening). IsIndex l held2 sums2) (sym list)
    (index_more ys o held1 held2 sums1 sums2 (index_kept xs ys held held1 sums sums1 n same_list same_held same_sums) closed_now most new_held
    (λ i. new_sums i ∙ ap (λ (s : ℕ). if o.issue == i then s else unwrap_or (sums1 i) 0) total))

-- Those of a plan who wait, by a table of their places.
use Rattle.std.proofs.Common.{◌≡◌, ◌≤◌, ◌<◌, ◌+◌, ◌-◌, ℕ, take, drop, get_or, slice_set, replicate, List, [], ◌∷◌, length, Bool, true, false, not, Some, None, cond, ap, refl, sym, subst, arith, inl, inr, ◌⊎◌, ◌∙◌}
use Rattle.std.specs.Prelude.{◌==◌, ◌&&◌, slice_get, All, find}
use Rattle.std.proofs.Math.Bool.{and-false, and-true}
use Rattle.std.proofs.lemmas.Bool.{cases_lt, cond-false, cond-true, eq-eqb, eqb-true, ne_eqb}
use Rattle.std.proofs.lemmas.List.{drop_all, drop_more, get_or_default, length-take-le, take_all}
use Rattle.std.proofs.lemmas.List.Elements.{All-more, All-weaker}
use Rattle.std.proofs.lemmas.List.Sums.{sum_by-take-le}
use Rattle.std.proofs.lemmas.Option.{slice_get-get_or, slice_get_past}
use Rattle.cns_ids.proofs.ListLemmas.{filter_twice, find-filter, get_or-replicate_default, get_or-set, pigeonhole}
use Rattle.cns_allocate.specs.Plan.{IsPlan}
use Rattle.cns_allocate.specs.Served.{without}
use Rattle.cns_allocate.specs.Waiting.{ArePlaces, AreWaiting, IsPlaceOf, is_placed, placed}
use Rattle.cns_allocate.specs.declared.planned.Planned.{Planned}
use Rattle.cns_allocate.proofs.PlanLemmas.{is_planned_as}
use Rattle.cns_allocate.proofs.TurnLemmas.{filter_whole, find_one}

-- ---- a table of places

-- its member's number is one
abbrev pub HasMember : Planned → Type 0
HasMember p = (1 ≤ p.member) × (p.member ≤ 9999)

-- the members of a plan have different numbers, so they are at most 9,999
pub first_few : (plan : List Planned) (i : ℕ) → IsPlan plan → i ≤ length plan → All HasMember (take i plan) → i ≤ 9999
first_few plan i is within members =
    let few : length (take i plan) ≤ 9999 =
    pigeonhole (λ (p : Planned). p.member) 9999 (take i plan) members
    (λ m. omega (arith, sum_by-take-le (λ (p : Planned). cond (p.member == m) 1 0) plan i, is.once m)) in
    omega (arith, few, length-take-le i plan within)

-- one more of them
pub members_more : (plan : List Planned) (i : ℕ) (p : Planned) → i < length plan → p ≡ get_or plan i p → HasMember p → All HasMember (take i plan) → All HasMember (take (i + 1) plan)
members_more plan i p within is member members = All-more HasMember plan i p within members (subst HasMember is member)

-- a table of no places
pub no_places-are : (plan : List Planned) (n : ℕ) → ArePlaces plan (replicate n 0)
no_places-are plan n m some = absurd (omega (arith, get_or-replicate_default {X = ℕ} n m 0))

-- once one more place is written
pub places_more : (plan : List Planned) (places : List ℕ) (i member : ℕ) (p : Planned) → i < length plan → p ≡ get_or plan i p → member ≡ p.member → member < length places
    → ArePlaces plan places → ArePlaces plan (slice_set places member (i + 1))
places_more plan places i member p within is named small are m some = by (m == member) refl (get_or-set places member (i + 1) 0 m small)
  where
    at : (q : Planned) → get_or plan i q ≡ p
    at q = get_or_default plan i q p within ∙ sym is

    by : (b : Bool) → (m == member) ≡ b → get_or (slice_set places member (i + 1)) m 0 ≡ cond b (i + 1) (get_or places m 0)
        → IsPlaceOf plan m (get_or (slice_set places member (i + 1)) m 0)
    by true e now =
        subst (IsPlaceOf plan m) (sym now)
        (record {
          within = omega arith;
          named = λ q. (let first : (i + 1) - 1 ≡ i = omega arith in
              ap (λ (k : ℕ). (get_or plan k q).member) first ∙ ap (λ (x : Planned). x.member) (at q) ∙ sym named ∙ sym (eqb-true m member e));
        })
    by false e now = subst (IsPlaceOf plan m) (sym now) (are m (omega arith))

-- what is placed stays so
pub placed_more : (plan : List Planned) (places : List ℕ) (i member : ℕ) (p : Planned) → i < length plan → p ≡ get_or plan i p → member ≡ p.member → member < length places
    → All (λ (q : Planned). is_placed places q ≡ true) (take i plan) → All (λ (q : Planned). is_placed (slice_set places member (i + 1)) q ≡ true) (take (i + 1) plan)
placed_more plan places i member p within is named small all =
    All-more (λ (q : Planned). is_placed new q ≡ true) plan i p within
    (All-weaker (λ (q : Planned). is_placed places q ≡ true) (λ (q : Planned). is_placed new q ≡ true) (λ q e. stays q e) (take i plan) all)
    (subst (λ (q : Planned). is_placed new q ≡ true) is here)
  where
    new : List ℕ
    new = slice_set places member (i + 1)

    not_zero : not (i + 1 == 0) ≡ true
    not_zero = ap not (ne_eqb (i + 1) 0 (λ e. omega arith))

    stays : (q : Planned) → is_placed places q ≡ true → is_placed new q ≡ true
    stays q e = by (q.member == member) (get_or-set places member (i + 1) 0 q.member small)
      where
        by : (b : Bool) → get_or new q.member 0 ≡ cond b (i + 1) (get_or places q.member 0) → is_placed new q ≡ true
        by true now = ap (λ (k : ℕ). not (k == 0)) now ∙ not_zero
        by false now = ap (λ (k : ℕ). not (k == 0)) now ∙ e

    here : is_placed new p ≡ true
    here =
        ap (λ (k : ℕ). not (k == 0)) (get_or-set places member (i + 1) 0 p.member small ∙ cond-true (p.member == member) (i + 1) (get_or places p.member 0) (eq-eqb p.member member (sym named)))
        ∙ not_zero

-- where each is placed, all are
pub placed_whole : (plan : List Planned) (places : List ℕ) (i : ℕ) → length plan ≤ i → All (λ (q : Planned). is_placed places q ≡ true) (take i plan) → placed places plan ≡ plan
placed_whole plan places i all placed_all =
    filter_whole (is_placed places) plan (subst (All (λ (q : Planned). is_placed places q ≡ true)) (take_all i plan all) placed_all)

-- ---- the first one

-- one that is placed is the first of those left
pub placed_first : (plan : List Planned) (places : List ℕ) (i : ℕ) (p : Planned) → i < length plan → is_placed places (get_or plan i p) ≡ true
    → placed places (drop i plan) ≡ get_or plan i p ∷ placed places (drop (i + 1) plan)
placed_first plan places i p within here =
    ap (placed places) (drop_more plan i p within) ∙ cond-true (is_placed places (get_or plan i p)) _ _ here

-- nobody waits where the first place is past the plan
pub waits_none : (plan : List Planned) (places : List ℕ) (first : ℕ) → AreWaiting plan places first → first ≡ length plan → placed places plan ≡ []
waits_none plan places first are e = sym are.left ∙ ap (placed places) (drop_all first plan (omega arith))

pub waits_some : (plan : List Planned) (places : List ℕ) (first : ℕ) → AreWaiting plan places first → placed places plan ≡ [] → first ≡ length plan
waits_some [] places first are none = omega (arith, are.within)
waits_some (p ∷ plan) places first are none = by (cases_lt first (length (p ∷ plan)))
  where
    by : (first < length (p ∷ plan)) ⊎ (length (p ∷ plan) ≤ first) → first ≡ length (p ∷ plan)
    by (inl below) =
        let some = placed_first (p ∷ plan) places first p below (are.waits p below) in
        let no : get_or (p ∷ plan) first p ∷ placed places (drop (first + 1) (p ∷ plan)) ≡ [] = sym some ∙ are.left ∙ none in
        absurd cc
    by (inr past) = omega (arith, are.within)

-- the first place is that of the first of them
pub waits_first : (plan : List Planned) (places : List ℕ) (first : ℕ) → AreWaiting plan places first → slice_get plan first ≡ slice_get (placed places plan) 0
waits_first [] places first are = refl
waits_first (p ∷ plan) places first are = by (cases_lt first (length (p ∷ plan)))
  where
    by : (first < length (p ∷ plan)) ⊎ (length (p ∷ plan) ≤ first) → slice_get (p ∷ plan) first ≡ slice_get (placed places (p ∷ plan)) 0
    by (inl below) =
        slice_get-get_or (p ∷ plan) first p below
        ∙ ap (λ (l : List Planned). slice_get l 0) (sym (placed_first (p ∷ plan) places first p below (are.waits p below)) ∙ are.left)
    by (inr past) =
        slice_get_past (p ∷ plan) first past ∙ sym (ap (λ (l : List Planned). slice_get l 0) (waits_none (p ∷ plan) places first are (omega (arith, are.within))))

-- ---- the one that is a member

pub find_unplaced : (plan : List Planned) (places : List ℕ) (member : ℕ) → get_or places member 0 ≡ 0 → find (is_planned_as member) (placed places plan) ≡ None
find_unplaced [] places member none = refl
find_unplaced (p ∷ plan) places member none = by (is_placed places p) refl (find_unplaced plan places member none)
  where
    other : is_placed places p ≡ true → is_planned_as member p ≡ false
    other e = ne_eqb p.member member (λ same. (let no : true ≡ false = sym e ∙ ap (λ (m : ℕ). not (get_or places m 0 == 0)) same ∙ ap (λ (k : ℕ). not (k == 0)) none in absurd cc))

    by : (b : Bool) → is_placed places p ≡ b → find (is_planned_as member) (placed places plan) ≡ None
        → find (is_planned_as member) (cond b (p ∷ placed places plan) (placed places plan)) ≡ None
    by true e rest = cond-false (is_planned_as member p) _ _ (other e) ∙ rest
    by false e rest = rest

find_kept : (plan : List Planned) (places : List ℕ) (member : ℕ) → 0 < get_or places member 0 → find (is_planned_as member) (placed places plan) ≡ find (is_planned_as member) plan
find_kept plan places member some =
    find-filter (is_planned_as member) (placed places plan)
    ∙ ap (λ (l : List Planned). slice_get l 0)
    (filter_twice (is_planned_as member) (is_placed places) (is_planned_as member) (λ p. both (is_placed places p) (is_planned_as member p) (mine p)) plan)
    ∙ sym (find-filter (is_planned_as member) plan)
  where
    both : (a b : Bool) → (b ≡ true → a ≡ true) → b ≡ (a && b)
    both true b has = refl
    both false true has = sym (has refl)
    both false false has = refl

    mine : (p : Planned) → is_planned_as member p ≡ true → is_placed places p ≡ true
    mine p e =
        let same : get_or places p.member 0 ≡ get_or places member 0 = ap (λ (m : ℕ). get_or places m 0) (eqb-true p.member member e) in
        ap not (ne_eqb (get_or places p.member 0) 0 (λ none. omega (arith, same, none, some)))

-- the one that stands at its place is found by its member
pub find_placed : (plan : List Planned) (places : List ℕ) (member : ℕ) (p : Planned) → IsPlan plan → ArePlaces plan places → 0 < get_or places member 0
    → find (is_planned_as member) (placed places plan) ≡ Some (get_or plan (get_or places member 0 - 1) p)
find_placed plan places member p is are some =
    let place = are member some in
    find_kept plan places member some
    ∙ find_one (is_planned_as member) plan (get_or places member 0 - 1) p (is.once member) (omega (arith, place.within)) (eq-eqb _ member (place.named p))

-- ---- one that waits no longer

pub placed_without : (plan : List Planned) (places : List ℕ) (member : ℕ) → member < length places → placed (slice_set places member 0) plan ≡ without member (placed places plan)
placed_without plan places member within =
    sym (filter_twice (λ (p : Planned). not (p.member == member)) (is_placed places) (is_placed (slice_set places member 0)) each plan)
  where
    law : (b : Bool) (k : ℕ) → not (cond b 0 k == 0) ≡ (not (k == 0) && not b)
    law true k = sym (and-false (not (k == 0)))
    law false k = sym (and-true (not (k == 0)))

    each : (p : Planned) → is_placed (slice_set places member 0) p ≡ (is_placed places p && not (p.member == member))
    each p = ap (λ (k : ℕ). not (k == 0)) (get_or-set places member 0 0 p.member within) ∙ law (p.member == member) (get_or places p.member 0)

places_fewer : (plan : List Planned) (places : List ℕ) (member : ℕ) → member < length places → ArePlaces plan places → ArePlaces plan (slice_set places member 0)
places_fewer plan places member within are m some = by (m == member) (get_or-set places member 0 0 m within)
  where
    by : (b : Bool) → get_or (slice_set places member 0) m 0 ≡ cond b 0 (get_or places m 0) → IsPlaceOf plan m (get_or (slice_set places member 0) m 0)
    by true now = absurd (omega (arith, now))
    by false now = subst (IsPlaceOf plan m) (sym now) (are m (omega (arith, now)))

pub waiting_fewer : (plan : List Planned) (places : List ℕ) (member first first' : ℕ) → member < length places → AreWaiting plan places first → first' ≤ length plan
    → placed (slice_set places member 0) (drop first' plan) ≡ placed (slice_set places member 0) (drop first plan)
    → ((p : Planned) → first' < length plan → is_placed (slice_set places member 0) (get_or plan first' p) ≡ true) → AreWaiting plan (slice_set places member 0) first'
waiting_fewer plan places member first first' small are within left waits = record {
  lawful = are.lawful;
  places_are = places_fewer plan places member small are.places_are;
  within = within;
  left = left ∙ placed_without (drop first plan) places member small ∙ ap (without member) are.left ∙ sym (placed_without plan places member small);
  waits = waits;
}

-- Whose turn it is among those who wait, and what is left of them once it is served.
use Rattle.std.proofs.Common.{◌≡◌, ◌≤◌, ◌<◌, ◌+◌, ℕ, suc, List, [], ◌∷◌, ◌++◌, length, take, drop, get_or, Bool, true, false, not, Option, Some, None, cond, ap, refl, sym, subst, arith, ◌∙◌}
use Rattle.std.specs.Prelude.{◌==◌, ◌||◌, nat_lt, slice_get, All, AllPairs, IsPermutation, count_by, filter, find, position}
use Rattle.std.specs.List.{position_or_len, remove}
use Rattle.std.proofs.lemmas.Bool.{cond-false, cond-true, eqb-true, le-ltb, ltb-false}
use Rattle.std.proofs.lemmas.List.{drop-drop, drop_more, length-drop, nil_from_length, take-append-drop}
use Rattle.std.proofs.lemmas.List.Edits.{length-remove}
use Rattle.std.proofs.lemmas.List.Elements.{All-filter, All-head, All-tail, All-weaker, filter-append, filter_passes}
use Rattle.std.proofs.lemmas.List.Folds.{find_at, list_any_none}
use Rattle.std.proofs.lemmas.List.Kept.{AllPairs-filter}
use Rattle.std.proofs.lemmas.List.Quantifiers.{position-Some}
use Rattle.std.proofs.lemmas.List.Sorted.{IsPermutation-remove, IsPermutation-sym}
use Rattle.std.proofs.lemmas.List.Sums.{get_or-le-sum_by, length-filter, prefix_len_passes, sum_by-drop_more, sum_by-take-drop}
use Rattle.std.proofs.lemmas.Option.{get_or_from_slice_get, slice_get_within}
use Rattle.cns_ids.proofs.ListLemmas.{count_by-filter, drop-remove, find-filter, list_any-false}
use Rattle.cns_movements.specs.Asked.{IsAsked}
use Rattle.cns_allocate.specs.Group.{rank}
use Rattle.cns_allocate.specs.Plan.{IsPlan, IsServable}
use Rattle.cns_allocate.specs.Served.{is_after_others, turn_of, without}
use Rattle.cns_allocate.specs.declared.planned.Planned.{Planned}
use Rattle.cns_allocate.specs.declared.turns.Turn.TheVariants.{EarlierGroup, Next, NotLong}
use Rattle.cns_allocate.proofs.PlanLemmas.{is_planned_as}

-- ---- lists

-- where each passes, all are kept
pub filter_whole : {X : Type 0} (test : X → Bool) (xs : List X) → All (λ x. test x ≡ true) xs → filter test xs ≡ xs
filter_whole test [] all = refl
filter_whole test (x ∷ xs) all =
    cond-true (test x) _ _ (All-head (λ y. test y ≡ true) x xs all) ∙ ap (λ ys. x ∷ ys) (filter_whole test xs (All-tail (λ y. test y ≡ true) x xs all))

-- where none passes, each fails
pub count_none : {X : Type 0} (p : X → Bool) (xs : List X) → count_by p xs ≡ 0 → All (λ x. p x ≡ false) xs
count_none p xs none i d below = fails (p (get_or xs i d)) (omega (arith, none, get_or-le-sum_by (λ x. cond (p x) 1 0) xs i d below))
  where
    fails : (b : Bool) → cond b 1 0 ≤ 0 → b ≡ false
    fails true le = absurd (omega (arith, le))
    fails false le = refl

-- so all are kept that do not pass
kept_whole : {X : Type 0} (p : X → Bool) (xs : List X) → count_by p xs ≡ 0 → filter (λ x. not (p x)) xs ≡ xs
kept_whole p xs none =
    filter_whole (λ x. not (p x)) xs (All-weaker (λ x. p x ≡ false) (λ x. not (p x) ≡ true) (λ x e. ap not e) xs (count_none p xs none))

-- what holds of each that passes holds of what is found
found_kept : {X : Type 0} (P : X → Type 0) (test : X → Bool) (xs : List X) (y : X) → All P (filter test xs) → find test xs ≡ Some y → P y
found_kept P test xs y all found =
    let first = sym (find-filter test xs) ∙ found in
    subst P (get_or_from_slice_get (filter test xs) 0 y y first) (all 0 y (slice_get_within (filter test xs) 0 y first))

-- what is found is one of the list, and passes
pub find-All : {X : Type 0} (P : X → Type 0) (test : X → Bool) (xs : List X) (y : X) → All P xs → find test xs ≡ Some y → P y
find-All P test xs y all = found_kept P test xs y (All-filter test P xs all)

pub find-passes : {X : Type 0} (test : X → Bool) (xs : List X) (y : X) → find test xs ≡ Some y → test y ≡ true
find-passes test xs y = found_kept (λ x. test x ≡ true) test xs y (filter_passes test xs)

pub find-none : {X : Type 0} (test : X → Bool) (xs : List X) → find test xs ≡ None → count_by test xs ≡ 0
find-none {X = X} test xs none = sym (length-filter test xs) ∙ empty (filter test xs) (sym (find-filter test xs) ∙ none)
  where
    empty : (ys : List X) → slice_get ys 0 ≡ None → length ys ≡ 0
    empty [] e = refl
    empty (y ∷ ys) e = cc

-- one that passes a test that no other passes
module _ {X : Type 0} (test : X → Bool) (xs : List X) (i : ℕ) (d : X) (once : count_by test xs ≤ 1) (below : i < length xs) (passes : test (get_or xs i d) ≡ true) where
  others_fail : (count_by test (take i xs) ≡ 0) × (count_by test (drop (i + 1) xs) ≡ 0)
  others_fail =
      let one : ◌≡◌ {A = ℕ} (cond (test (get_or xs i d)) 1 0) 1 = cond-true _ 1 0 passes in
      let all = sum_by-take-drop (λ x. cond (test x) 1 0) xs i in
      let later = sum_by-drop_more (λ x. cond (test x) 1 0) xs i d below in
      (omega (arith, one, once, all, later), omega (arith, one, once, all, later))

  split : xs ≡ take i xs ++ get_or xs i d ∷ drop (i + 1) xs
  split = sym (take-append-drop i xs) ∙ ap (λ l. take i xs ++ l) (drop_more xs i d below)

  -- those that do not pass are what is left without it
  pub remove_one : remove xs i ≡ filter (λ x. not (test x)) xs
  remove_one =
      let next : suc i ≡ i + 1 = omega arith in
      let kept : filter (λ x. not (test x)) xs ≡ take i xs ++ drop (i + 1) xs =
      ap (filter (λ x. not (test x))) split ∙ filter-append (λ x. not (test x)) (take i xs) (get_or xs i d ∷ drop (i + 1) xs)
      ∙ ap (λ l. filter (λ x. not (test x)) (take i xs) ++ l) (cond-false (not (test (get_or xs i d))) _ _ (ap not passes) ∙ kept_whole test (drop (i + 1) xs) others_fail.1)
      ∙ ap (λ l. l ++ drop (i + 1) xs) (kept_whole test (take i xs) others_fail.0) in
      ap (λ n. take i xs ++ drop n xs) next ∙ sym kept

  -- and it is found
  pub find_one : find test xs ≡ Some (get_or xs i d)
  find_one =
      let kept : filter test xs ≡ get_or xs i d ∷ filter test (drop (i + 1) xs) =
      ap (filter test) split ∙ filter-append test (take i xs) (get_or xs i d ∷ drop (i + 1) xs)
      ∙ ap (λ l. l ++ filter test (get_or xs i d ∷ drop (i + 1) xs)) (nil_from_length (filter test (take i xs)) (length-filter test (take i xs) ∙ others_fail.0))
      ∙ cond-true (test (get_or xs i d)) _ _ passes in
      find-filter test xs ∙ ap (λ l. slice_get l 0) kept

-- where none stands at a place, all are kept that do not pass
pub position-none : {X : Type 0} (test : X → Bool) (xs : List X) → position test xs ≡ None → filter (λ x. not (test x)) xs ≡ xs
position-none test xs none = filter_whole (λ x. not (test x)) xs (λ k d below. prefix_len_passes (λ x. not (test x)) xs k d (omega (arith, below, past (nat_lt at (length xs)) refl none)))
  where
    at : ℕ
    at = position_or_len test xs

    past : (b : Bool) → nat_lt at (length xs) ≡ b → cond b (Some at) None ≡ None → length xs ≤ at
    past true e f = cc
    past false e _ = ltb-false at (length xs) e

-- ---- a plan without a member

-- workers can serve a plan
pub IsPlan-servable : (plan : List Planned) → IsPlan plan → IsServable plan
IsPlan-servable plan is = record {
  asks = All-weaker (λ (p : Planned). IsAsked p.asked) (λ (p : Planned). 1 ≤ p.asked) (λ p asked. asked.from) plan is.asked;
  groups = is.groups;
}

-- what is left of a plan is one
pub IsPlan-filter : (test : Planned → Bool) (plan : List Planned) → IsPlan plan → IsPlan (filter test plan)
IsPlan-filter test plan is = record {
  asked = All-filter test (λ (p : Planned). IsAsked p.asked) plan is.asked;
  once = λ m. omega (arith, count_by-filter test (is_planned_as m) plan, is.once m);
  groups = AllPairs-filter (λ (p q : Planned). rank p.group ≤ rank q.group) test plan is.groups;
}

pub IsPlan-without : (member : ℕ) (plan : List Planned) → IsPlan plan → IsPlan (without member plan)
IsPlan-without member = IsPlan-filter (λ (p : Planned). not (p.member == member))

-- those of a plan that are not a member are what is left once it is removed
removed : (plan : List Planned) (member i : ℕ) → IsPlan plan → position (is_planned_as member) plan ≡ Some i → (i < length plan) × (remove plan i ≡ without member plan)
removed [] member i is found = cc
removed (q ∷ plan) member i is found =
    let at = position-Some (is_planned_as member) (q ∷ plan) i q found in (at.0, remove_one (is_planned_as member) (q ∷ plan) i q (is.once member) at.0 at.1)

-- some wait in a list from a start on
abbrev AreLeft : ℕ → List Planned → List Planned → Type 0
AreLeft start list left = (start ≤ length list) × (drop start list ≡ left)

-- where the member is the first of them, the others wait behind it
pub removed_first : (list : List Planned) (start member : ℕ) → IsPlan (drop start list) → position (is_planned_as member) (drop start list) ≡ Some 0
    → AreLeft (start + 1) list (without member (drop start list))
removed_first list start member is found =
    let left = removed (drop start list) member 0 is found in (omega (arith, left.0, length-drop start list), sym (drop-drop 1 start list) ∙ left.1)

-- and else in what is left of the list without it
pub removed_other : (list : List Planned) (start member i : ℕ) → start ≤ length list → IsPlan (drop start list) → position (is_planned_as member) (drop start list) ≡ Some i
    → AreLeft start (remove list (start + i)) (without member (drop start list))
removed_other list start member i within is found =
    let left = removed (drop start list) member i is found in
    let below : start + i < length list = omega (arith, left.0, length-drop start list) in
    (omega (arith, below, length-remove list (start + i) below), drop-remove start i list within ∙ left.1)

-- a plan is the one that is planned as a member, and those that are not
pub find-without : (member : ℕ) (plan : List Planned) (q : Planned) → count_by (is_planned_as member) plan ≤ 1 → find (is_planned_as member) plan ≡ Some q
    → IsPermutation (q ∷ without member plan) plan
find-without member plan q once found =
    let i : ℕ = position_or_len (is_planned_as member) plan in
    let at : slice_get plan i ≡ Some q = sym (find_at (is_planned_as member) plan) ∙ found in
    let below = slice_get_within plan i q at in
    let is : q ≡ get_or plan i q = sym (get_or_from_slice_get plan i q q at) in
    let named : is_planned_as member (get_or plan i q) ≡ true = subst (λ (p : Planned). is_planned_as member p ≡ true) is (find-passes (is_planned_as member) plan q found) in
    IsPermutation-sym plan (q ∷ without member plan)
    (subst (λ (l : List Planned). IsPermutation plan (q ∷ l)) (remove_one (is_planned_as member) plan i q once below named) (IsPermutation-remove plan i q below is))

-- ---- turns

-- whether the first one is of an earlier group decides whether one of an earlier group waits
after-first : (p first : Planned) (plan : List Planned) → AllPairs (λ (p q : Planned). rank p.group ≤ rank q.group) (first ∷ plan)
    → is_after_others (first ∷ plan) p ≡ nat_lt (rank first.group) (rank p.group)
after-first p first plan groups = by (nat_lt (rank first.group) (rank p.group)) refl
  where
    by : (b : Bool) → nat_lt (rank first.group) (rank p.group) ≡ b → (b || is_after_others plan p) ≡ b
    by true e = refl
    by false e =
        list_any_none (λ (q : Planned). nat_lt (rank q.group) (rank p.group)) plan
        (λ i d below. le-ltb _ (rank p.group) (omega (arith, groups 0 (suc i) d (omega arith) (omega arith), ltb-false (rank first.group) (rank p.group) e)))

-- the turn of one that waits, by the first one
pub turn_some : (plan : List Planned) (member : ℕ) (first p : Planned) (after : Bool) → IsPlan plan → Some first ≡ slice_get plan 0 → Some p ≡ find (is_planned_as member) plan
    → nat_lt (rank first.group) (rank p.group) ≡ after → cond after EarlierGroup (Next p.asked) ≡ turn_of plan member
turn_some [] member first p after is at found earlier = cc
turn_some (q ∷ plan) member first p after is at found earlier =
    let same : first ≡ q = cc in
    let decided = after-first p q plan is.groups in
    rw (← found, decided, ← same, earlier, turn_of) refl

-- the one that may draw a ticket: it is found by its member, and none of an earlier group waits
pub record IsTurn (plan : List Planned) (member asked : ℕ) : Type 0 where
  pub planned : Planned
  pub found : find (is_planned_as member) plan ≡ Some planned
  pub named : planned.member ≡ member
  pub shares : planned.asked ≡ asked
  pub first : All (λ (q : Planned). rank planned.group ≤ rank q.group) plan

first_group : (plan : List Planned) (p : Planned) → is_after_others plan p ≡ false → All (λ (q : Planned). rank p.group ≤ rank q.group) plan
first_group plan p none =
    All-weaker (λ (q : Planned). nat_lt (rank q.group) (rank p.group) ≡ false) (λ (q : Planned). rank p.group ≤ rank q.group)
    (λ q e. ltb-false (rank q.group) (rank p.group) e) plan (list_any-false (λ (q : Planned). nat_lt (rank q.group) (rank p.group)) plan none)

pub turn-parts : (plan : List Planned) (member asked : ℕ) → turn_of plan member ≡ Next asked → IsTurn plan member asked
turn-parts plan member asked next = by _ refl next
  where
    by_group : (p : Planned) (b : Bool) → find (is_planned_as member) plan ≡ Some p → is_after_others plan p ≡ b → cond b EarlierGroup (Next p.asked) ≡ Next asked
        → IsTurn plan member asked
    by_group p true f e n = cc
    by_group p false f e n = record {
      planned = p;
      found = f;
      named = eqb-true p.member member (find-passes (is_planned_as member) plan p f);
      shares = cc;
      first = first_group plan p e;
    }

    by : (o : Option Planned) → find (is_planned_as member) plan ≡ o → turn_of plan member ≡ Next asked → IsTurn plan member asked
    by None f n = let no : NotLong ≡ Next asked = rw (f, turn_of) at n in cc
    by (Some p) f n = by_group p _ f refl (rw (f, turn_of) at n)

-- and it is its turn
pub turn-next : (plan : List Planned) (member : ℕ) (p : Planned) → find (is_planned_as member) plan ≡ Some p → All (λ (q : Planned). rank p.group ≤ rank q.group) plan
    → turn_of plan member ≡ Next p.asked
turn-next plan member p found first =
    let none =
    list_any_none (λ (q : Planned). nat_lt (rank q.group) (rank p.group)) plan
    (All-weaker (λ (q : Planned). rank p.group ≤ rank q.group) (λ (q : Planned). nat_lt (rank q.group) (rank p.group) ≡ false)
    (λ q le. le-ltb (rank q.group) (rank p.group) le) plan first) in
    rw (found, none, turn_of) refl

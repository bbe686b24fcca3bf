-- The place of each issue's lot, as lots are opened, refilled and closed.
use Rattle.std.proofs.Common.{◌≡◌, ℕ, Bool, true, false, cond, not, List, [], ◌∷◌, ◌++◌, length, map, slice_set, get_or, Some, None, nat_eq, refl, sym, ap, ◌∙◌, arith}
use Rattle.std.specs.Prelude.{IsTrue, ◌↔◌, Option, ◌==◌, MatchOption, count_by, find, option_map}
use Rattle.std.specs.HashMap.{HashMap, get, hash_map_len}
use Rattle.std.specs.List.{filter_map, position}
use Rattle.std.specs.Map.{lookup}
use Rattle.std.proofs.Math.Path.{fun_ext}
use Rattle.std.proofs.lemmas.Bool.{cond-false, cond-true, eqb-true}
use Rattle.std.proofs.lemmas.Bool.Decides.{nat_tests}
use Rattle.std.proofs.lemmas.Cmp.{nat_eq_equiv}
use Rattle.std.proofs.lemmas.List.{length-map, length_push, nil_from_length}
use Rattle.std.proofs.lemmas.List.Sums.{sum_by-cons}
use Rattle.std.proofs.lemmas.Map.Made.{nil_from_lookup}
use Rattle.std.proofs.lemmas.Option.{MatchOption-at_none, MatchOption-at_some}
use Rattle.cns_allocate.proofs.TurnLemmas.{find-passes}
use Rattle.cns_clearing.specs.Lots.{refilled, without_lot}
use Rattle.cns_clearing.specs.OpenLots.{AreSlotPlaces, AreSlots, filled, is_slot_of}
use Rattle.cns_clearing.specs.Pools.{lot_of}
use Rattle.cns_clearing.specs.declared.lot.Lot.{Lot}
use Rattle.cns_ids.proofs.ListLemmas.{count_by-filter, map_once, position_found, position_map, position_no, position_none, position_push, position_push_other}
use Rattle.cns_clearing.proofs.LotLemmas.{count_opened, count_refilled, is_lot_of, refilled_issue}

-- ---- the lots of some slots

-- as many lots of an issue as slots
count_filled : (issue : ℕ) (slots : List (Option Lot)) → count_by (is_slot_of issue) slots ≡ count_by (is_lot_of issue) (filled slots)
count_filled issue [] = refl
count_filled issue (None ∷ slots) = count_filled issue slots
count_filled issue (Some lot ∷ slots) = omega (arith, count_filled issue slots, sum_by-cons)

-- the lots with one slot more
pub filled_push : (slots : List (Option Lot)) (lot : Lot) → filled (slots ++ Some lot ∷ []) ≡ filled slots ++ lot ∷ []
filled_push [] lot = refl
filled_push (None ∷ slots) lot = filled_push slots lot
filled_push (Some first ∷ slots) lot = ap (λ lots. first ∷ lots) (filled_push slots lot)

-- the lots once each is changed
pub filled_map : (f : Lot → Lot) (slots : List (Option Lot)) → filled (map (option_map f) slots) ≡ map f (filled slots)
filled_map f [] = refl
filled_map f (None ∷ slots) = filled_map f slots
filled_map f (Some lot ∷ slots) = ap (λ lots. f lot ∷ lots) (filled_map f slots)

-- the issues of the slots' lots
pub filled_issues : (slots : List (Option Lot)) → filter_map (option_map (λ (l : Lot). l.issue)) slots ≡ map (λ (l : Lot). l.issue) (filled slots)
filled_issues [] = refl
filled_issues (None ∷ slots) = filled_issues slots
filled_issues (Some lot ∷ slots) = ap (λ issues. lot.issue ∷ issues) (filled_issues slots)

-- a slot once the lot of an issue is closed
abbrev emptied : ℕ → Option Lot → Option Lot
emptied issue slot = cond (is_slot_of issue slot) None slot

-- the lots once that of an issue is closed
filled_emptied : (issue : ℕ) (slots : List (Option Lot)) → filled (map (emptied issue) slots) ≡ without_lot issue (filled slots)
filled_emptied issue [] = refl
filled_emptied issue (None ∷ slots) = filled_emptied issue slots
filled_emptied issue (Some lot ∷ slots) = grind (arith, filled_emptied issue slots)

-- the first slot of an issue has its lot
found_in : (issue : ℕ) (slots : List (Option Lot)) → MatchOption (find (is_slot_of issue) slots) (lot_of (filled slots) issue ≡ None) (λ slot. lot_of (filled slots) issue ≡ slot)
found_in issue [] = refl
found_in issue (None ∷ slots) = found_in issue slots
found_in issue (Some lot ∷ slots) = grind (arith, found_in issue slots)

-- and there is none where no lot of it is open
none_found : (issue : ℕ) (slots : List (Option Lot)) → lot_of (filled slots) issue ≡ None → find (is_slot_of issue) slots ≡ None
none_found issue [] none = refl
none_found issue (None ∷ slots) none = none_found issue slots none
none_found issue (Some lot ∷ slots) none = grind (arith, none_found issue slots)

-- ---- the lot of an issue

module _ (slots : List (Option Lot)) (issue : ℕ) (places : ℕ → Option ℕ) (are : AreSlotPlaces slots places) where
  -- what stands at the place of an issue
  slot_found : (k : ℕ) → Some k ≡ places issue → (d : Option Lot) → find (is_slot_of issue) slots ≡ Some (get_or slots k d)
  slot_found k is = MatchOption-at_some _ _ k (sym (are.first issue) ∙ sym is) (position_found (is_slot_of issue) slots)

  -- is its lot
  pub lot_got : (k : ℕ) (slot : Option Lot) → Some k ≡ places issue → slot ≡ get_or slots k slot → slot ≡ lot_of (filled slots) issue
  lot_got k slot is here = here ∙ sym (MatchOption-at_some _ _ _ (slot_found k is slot) (found_in issue slots))

  -- and where it has no place no lot of it is open
  pub none_got : None ≡ places issue → None ≡ lot_of (filled slots) issue
  none_got is = sym (MatchOption-at_none _ _ (MatchOption-at_none _ _ (sym (are.first issue) ∙ sym is) (position_found (is_slot_of issue) slots)) (found_in issue slots))

  module _ (f : Option Lot → Option Lot) (fixed : (slot : Option Lot) → is_slot_of issue slot ≡ false → f slot ≡ slot) where
    -- a change of the slots of the issue alone, by whether it has a place
    once : MatchOption (position (is_slot_of issue) slots) (map f slots ≡ slots) (λ k. (d : Option Lot) → slice_set slots k (f (get_or slots k d)) ≡ map f slots)
    once = map_once (is_slot_of issue) f fixed slots (omega (arith, count_filled issue slots, are.once issue))

    -- a change of its slots changes none
    none_set : None ≡ places issue → map f slots ≡ slots
    none_set is = MatchOption-at_none _ _ (sym (are.first issue) ∙ sym is) once

    -- and else the one at its place
    one_set : (k : ℕ) → Some k ≡ places issue → (d : Option Lot) → slice_set slots k (f (get_or slots k d)) ≡ map f slots
    one_set k is = MatchOption-at_some _ _ k (sym (are.first issue) ∙ sym is) once

-- ---- where no lot is open

-- there is no lot of any issue
none_at_all : (lots : List Lot) → ((issue : ℕ) → lot_of lots issue ≡ None) → lots ≡ []
none_at_all [] none = refl
none_at_all (lot ∷ lots) none = grind (arith, nat_tests, none lot.issue)

-- where no issue has a place no lot is open
pub none_open : {S : Type 0} (slots : List (Option Lot)) (map : HashMap ℕ ℕ S) → AreSlotPlaces slots (λ issue. get nat_eq map issue) → hash_map_len map ≡ 0 → filled slots ≡ []
none_open slots map are none =
    none_at_all (filled slots) (λ issue. sym (none_got slots issue _ are (ap (lookup (nat_eq issue)) (sym (nil_from_length map.entries none)))))

-- where no lot is open no issue has a place
pub no_place : {S : Type 0} (slots : List (Option Lot)) (map : HashMap ℕ ℕ S) → AreSlotPlaces slots (λ issue. get nat_eq map issue) → filled slots ≡ [] → hash_map_len map ≡ 0
no_place slots map are none =
    ap length (nil_from_lookup nat_eq_equiv map.entries (λ issue. are.first issue ∙ position_no (is_slot_of issue) slots (none_found issue slots (rw none))))

-- ---- the slots that are left

-- the same slots and places
pub slots_kept : (slots slots' : List (Option Lot)) (old new : ℕ → Option ℕ) → AreSlots slots old → ((issue : ℕ) → new issue ≡ old issue) → slots' ≡ slots → AreSlots slots' new
slots_kept slots slots' old new are same is = rw (is, fun_ext same) are

-- no lot is open where there are no slots
pub none_by_length : (slots : List (Option Lot)) (places : ℕ → Option ℕ) → AreSlots slots places → IsTrue (length slots == 0) ↔ (filled slots ≡ [])
none_by_length slots places are =
    (λ is. ap filled (nil_from_length slots (eqb-true (length slots) 0 is)), λ none. rw (are.cleared none))

-- a map that has entries has a place
pub some_left : {S : Type 0} (slots : List (Option Lot)) (map : HashMap ℕ ℕ S) → AreSlotPlaces slots (λ issue. get nat_eq map issue) → (hash_map_len map ≡ 0 → ⊥) → AreSlots slots (λ issue. get nat_eq map issue)
some_left slots map are some = record { placed = are; cleared = λ none. absurd (some (no_place slots map are none)) }

-- ---- a lot that is opened

-- the new slot is the last, and the place of its issue
pub slots_opened : (slots : List (Option Lot)) (lot : Lot) (n : ℕ) (old new : ℕ → Option ℕ) → AreSlotPlaces slots old → lot_of (filled slots) lot.issue ≡ None → n ≡ length slots
    → ((i : ℕ) → new i ≡ cond (lot.issue == i) (Some n) (old i)) → AreSlots (slots ++ Some lot ∷ []) new
slots_opened slots lot n old new are none last set = record {
  placed = record {
    first = λ i. by i (lot.issue == i) refl (set i);
    once = λ i. rw (filled_push slots lot) (count_opened (filled slots) lot are.once none i);
  };
  cleared = λ empty. absurd (omega (arith, ap (λ (lots : List Lot). length lots) (sym (filled_push slots lot) ∙ empty), length_push (filled slots) lot));
}
  where
    by : (i : ℕ) (b : Bool) → (lot.issue == i) ≡ b → new i ≡ cond b (Some n) (old i) → new i ≡ position (is_slot_of i) (slots ++ Some lot ∷ [])
    by i true e is = is ∙ ap (λ (k : ℕ). Some k) last ∙ sym (position_push (is_slot_of i) slots (Some lot) (none_found i slots (rw (← eqb-true lot.issue i e) none)) e)
    by i false e is = is ∙ are.first i ∙ sym (position_push_other (is_slot_of i) slots (Some lot) e)

-- ---- a lot that has other shares

-- a slot of another issue stays as it is
other_stays : (issue upto poured : ℕ) (slot : Option Lot) → is_slot_of issue slot ≡ false → option_map (refilled issue upto poured) slot ≡ slot
other_stays issue upto poured None e = refl
other_stays issue upto poured (Some lot) e = rw e

-- and one of the issue has these shares
it_changes : (issue upto poured : ℕ) (slot : Option Lot) → is_slot_of issue slot ≡ true → option_map (λ (lot : Lot). record lot { upto = upto; poured = poured }) slot ≡ option_map (refilled issue upto poured) slot
it_changes issue upto poured None e = refl
it_changes issue upto poured (Some lot) e = rw e

module _ (slots : List (Option Lot)) (issue : ℕ) (places : ℕ → Option ℕ) (upto poured : ℕ) where
  -- where no lot of the issue is open all stay as they are
  pub refilled_none : AreSlotPlaces slots places → None ≡ places issue → filled slots ≡ map (refilled issue upto poured) (filled slots)
  refilled_none are is = ap filled (sym (none_set slots issue places are (option_map (refilled issue upto poured)) (other_stays issue upto poured) is)) ∙ filled_map (refilled issue upto poured) slots

  -- and else that lot alone changes
  pub refilled_at : (k : ℕ) (slot slot' : Option Lot) → AreSlotPlaces slots places → Some k ≡ places issue → slot ≡ get_or slots k slot
      → slot' ≡ option_map (λ (lot : Lot). record lot { upto = upto; poured = poured }) slot → slice_set slots k slot' ≡ map (option_map (refilled issue upto poured)) slots
  refilled_at k slot slot' are is here has =
      let f : Option Lot → Option Lot = option_map (refilled issue upto poured) in
      let its : is_slot_of issue slot ≡ true = ap (is_slot_of issue) here ∙ find-passes (is_slot_of issue) slots _ (slot_found slots issue places are k is slot) in
      ap (slice_set slots k) (has ∙ it_changes issue upto poured slot its ∙ ap f here) ∙ one_set slots issue places are f (other_stays issue upto poured) k is slot

  -- no place changes
  pub slots_refilled : AreSlots slots places → AreSlots (map (option_map (refilled issue upto poured)) slots) places
  slots_refilled are = record {
    placed = record {
      first = λ i. are.placed.first i ∙ sym (position_map (is_slot_of i) (option_map (refilled issue upto poured)) (same i) slots);
      once = λ i. omega (arith, ap (count_by (is_lot_of i)) (filled_map (refilled issue upto poured) slots), count_refilled issue upto poured i (filled slots), are.placed.once i);
    };
    cleared = λ none. ap (map (option_map (refilled issue upto poured)))
        (are.cleared (nil_from_length (filled slots) (sym (length-map (filled slots) (refilled issue upto poured)) ∙ ap (λ (lots : List Lot). length lots) (sym (filled_map (refilled issue upto poured) slots) ∙ none))));
  }
    where
      same : (i : ℕ) (slot : Option Lot) → is_slot_of i (option_map (refilled issue upto poured) slot) ≡ is_slot_of i slot
      same i None = refl
      same i (Some lot) = ap (λ (n : ℕ). n == i) (refilled_issue issue upto poured lot)

-- ---- a lot that is closed

module _ (slots : List (Option Lot)) (issue : ℕ) (places : ℕ → Option ℕ) (are : AreSlotPlaces slots places) where
  -- where no lot of the issue is open all stay open
  pub closed_none : None ≡ places issue → filled slots ≡ without_lot issue (filled slots)
  closed_none is = ap filled (sym (none_set slots issue places are (emptied issue) (λ slot e. cond-false _ _ _ e) is)) ∙ filled_emptied issue slots

  -- the slot at its place is emptied
  emptied_at : (k : ℕ) → Some k ≡ places issue → slice_set slots k None ≡ map (emptied issue) slots
  emptied_at k is =
      let its : is_slot_of issue (get_or slots k None) ≡ true = find-passes (is_slot_of issue) slots _ (slot_found slots issue places are k is None) in
      ap (slice_set slots k) (sym (cond-true _ _ _ its)) ∙ one_set slots issue places are (emptied issue) (λ slot e. cond-false _ _ _ e) k is None

  -- and else that lot alone does not
  pub closed_at : (k : ℕ) → Some k ≡ places issue → filled (slice_set slots k None) ≡ without_lot issue (filled slots)
  closed_at k is = ap filled (emptied_at k is) ∙ filled_emptied issue slots

  -- nor has it a place any more
  pub places_closed : (k : ℕ) (new : ℕ → Option ℕ) → Some k ≡ places issue → ((i : ℕ) → new i ≡ cond (issue == i) None (places i)) → AreSlotPlaces (slice_set slots k None) new
  places_closed k new is gone = rw (emptied_at k is) (record {
    first = λ i. by i (issue == i) refl (gone i);
    once = λ i. omega (arith, ap (count_by (is_lot_of i)) (filled_emptied issue slots), count_by-filter (λ (lot : Lot). not (lot.issue == issue)) (is_lot_of i) (filled slots), are.once i);
  })
    where
      is_gone : (slot : Option Lot) → is_slot_of issue (emptied issue slot) ≡ false
      is_gone None = refl
      is_gone (Some lot) = grind arith

      others : (i : ℕ) → (issue == i) ≡ false → (slot : Option Lot) → is_slot_of i (emptied issue slot) ≡ is_slot_of i slot
      others i e None = refl
      others i e (Some lot) = grind (arith, nat_tests)

      by : (i : ℕ) (b : Bool) → (issue == i) ≡ b → new i ≡ cond b None (places i) → new i ≡ position (is_slot_of i) (map (emptied issue) slots)
      by i true e is = is ∙ sym (rw (← eqb-true issue i e) (position_none (is_slot_of issue) (emptied issue) is_gone slots))
      by i false e is = is ∙ are.first i ∙ sym (position_map (is_slot_of i) (emptied issue) (others i e) slots)

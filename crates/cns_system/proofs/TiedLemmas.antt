-- The lots by number beside those of the node, as either change.
use Rattle.std.proofs.Common.{◌≡◌, ◌≤◌, ◌-◌, ◌+◌, ℕ, zero, suc, List, [], ◌∷◌, ◌++◌, length, map, Option, Some, None, Bool, true, false, not, cond, ap, sym, subst, refl, arith, ◌∙◌, inl, inr}
use Rattle.std.specs.Prelude.{◌==◌, ◌⊎◌, find, slice_get, slice_set, option_map, if◌then◌else◌}
use Rattle.std.specs.Option.{option_or}
use Rattle.std.proofs.lemmas.Bool.{cases_eq, eq-eqb, eqb-false, eqb-true, false_from_ne_true}
use Rattle.std.proofs.lemmas.List.{append_assoc}
use Rattle.std.proofs.lemmas.List.Folds.{find-append}
use Rattle.std.proofs.lemmas.Option.{same_Some, slice_get-map}
use Rattle.cns_clearing.specs.Lots.{AreLots, avail_in, lots_poured, plan_in, refilled, without_lot}
use Rattle.cns_clearing.proofs.LotLemmas.{lot_found}
use Rattle.cns_clearing.specs.Pools.{lot_of}
use Rattle.cns_clearing.specs.declared.lot.Lot.{Lot}
use Rattle.cns_records.specs.declared.clear_record.ClearRecord.{ClearRecord}
use Rattle.cns_system.specs.Lot.{LotState, IsOfPlan, with_end}
use Rattle.cns_wire.specs.Packet.{at_number}
use Rattle.cns_system.specs.Lots.{ArePlanned, with_lot}
use Rattle.cns_system.specs.Numbered.{AreTied, IsTied, with_lot_ended}

-- ---- the node's lot of an issue

-- a change that keeps what a test says of each
found_mapped : (p : Lot → Bool) (f : Lot → Lot) → ((l : Lot) → p (f l) ≡ p l) → (lots : List Lot) → find p (map f lots) ≡ option_map f (find p lots)
found_mapped p f same [] = refl
found_mapped p f same (l ∷ lots) =
    ap (λ b. cond b (Some (f l)) (find p (map f lots))) (same l) ∙ by (p l) (found_mapped p f same lots)
  where
    by : (b : Bool) → find p (map f lots) ≡ option_map f (find p lots) → cond b (Some (f l)) (find p (map f lots)) ≡ option_map f (cond b (Some l) (find p lots))
    by true rest = refl
    by false rest = rest

-- a pour changes of a lot the shares and the place of the last pour alone
pub poured_keeps : {X : Type 0} (f : Lot → X) (c : List ClearRecord) (issue : ℕ) (l : Lot) → f (record l { upto = length c; poured = avail_in c issue }) ≡ f l
    → f (refilled issue (length c) (avail_in c issue) l) ≡ f l
poured_keeps f c issue l same = by (l.issue == issue)
  where
    by : (b : Bool) → f (if b then record l { upto = length c; poured = avail_in c issue } else l) ≡ f l
    by true = same
    by false = refl

pub found_poured : (c : List ClearRecord) (issue other : ℕ) (lots : List Lot) → lot_of (lots_poured c issue lots) other ≡ option_map (refilled issue (length c) (avail_in c issue)) (lot_of lots other)
found_poured c issue other lots =
    found_mapped (λ (l : Lot). l.issue == other) (refilled issue (length c) (avail_in c issue)) (λ l. poured_keeps (λ (k : Lot). k.issue == other) c issue l refl) lots

-- the lots without that of an issue have those of the others
pub found_without : (issue other : ℕ) (lots : List Lot) → (other ≡ issue → ⊥) → lot_of (without_lot issue lots) other ≡ lot_of lots other
found_without issue other [] differ = refl
found_without issue other (l ∷ lots) differ =
    by (l.issue == other) refl (l.issue == issue) refl _ (found_without issue other lots differ)
  where
    by : (b : Bool) → (l.issue == other) ≡ b → (d : Bool) → (l.issue == issue) ≡ d → (left : List Lot) → lot_of left other ≡ lot_of lots other
        → lot_of (cond (not d) (l ∷ left) left) other ≡ cond b (Some l) (lot_of lots other)
    by true e true f left rest = absurd (differ (sym (eqb-true l.issue other e) ∙ eqb-true l.issue issue f))
    by true e false f left rest = ap (λ b. cond b (Some l) (lot_of left other)) e
    by false e true f left rest = rest
    by false e false f left rest = ap (λ b. cond b (Some l) (lot_of left other)) e ∙ rest

pub found_more : (open_lots : List Lot) (new lot : Lot) (issue : ℕ) → lot_of open_lots issue ≡ Some lot → lot_of (open_lots ++ new ∷ []) issue ≡ Some lot
found_more open_lots new lot issue found =
    let p : Lot → Bool = λ (l : Lot). l.issue == issue in
    find-append p open_lots (new ∷ []) ∙ ap (λ (o : Option Lot). option_or o (find p (new ∷ []))) found

pub found_new : (open_lots : List Lot) (new : Lot) (issue : ℕ) → new.issue ≡ issue → lot_of open_lots issue ≡ None → lot_of (open_lots ++ new ∷ []) issue ≡ Some new
found_new open_lots new issue is none =
    let p : Lot → Bool = λ (l : Lot). l.issue == issue in
    find-append p open_lots (new ∷ []) ∙ ap (λ (o : Option Lot). option_or o (find p (new ∷ []))) none
    ∙ ap (λ b. cond b (Some new) None) (eq-eqb new.issue issue is)

-- ---- the lot of a number

pub get_set_same : (lots : List LotState) (i : ℕ) (l x : LotState) → slice_get lots i ≡ Some l → slice_get (slice_set lots i x) i ≡ Some x
get_set_same [] i l x found = cc
get_set_same (y ∷ lots) zero l x found = refl
get_set_same (y ∷ lots) (suc i) l x found = get_set_same lots i l x found

get_set_other : (lots : List LotState) (i j : ℕ) (x : LotState) → (j ≡ i → ⊥) → slice_get (slice_set lots i x) j ≡ slice_get lots j
get_set_other [] i j x differ = refl
get_set_other (y ∷ lots) zero zero x differ = absurd (differ refl)
get_set_other (y ∷ lots) zero (suc j) x differ = refl
get_set_other (y ∷ lots) (suc i) zero x differ = refl
get_set_other (y ∷ lots) (suc i) (suc j) x differ = get_set_other lots i j x (λ e. differ (ap suc e))

pub get_more : {A : Type 0} (lots : List A) (i : ℕ) (x l : A) → slice_get (lots ++ x ∷ []) i ≡ Some l → (slice_get lots i ≡ Some l) ⊎ ((i ≡ length lots) × (x ≡ l))
get_more [] zero x l found = inr (refl, same_Some x l found)
get_more [] (suc i) x l found = cc
get_more (y ∷ lots) zero x l found = inl found
get_more (y ∷ lots) (suc i) x l found = by (get_more lots i x l found)
  where
    by : (slice_get lots i ≡ Some l) ⊎ ((i ≡ length lots) × (x ≡ l)) → (slice_get lots i ≡ Some l) ⊎ ((suc i ≡ suc (length lots)) × (x ≡ l))
    by (inl h) = inl h
    by (inr h) = inr (ap suc h.0, h.1)

positive : (n : ℕ) → (n ≡ 0 → ⊥) → 1 ≤ n
positive zero differ = absurd (differ refl)
positive (suc n) differ = omega arith

-- a number that has a lot is 1 or more
pub at_place : (lots : List LotState) (n : ℕ) (l : LotState) → at_number lots n ≡ Some l → (1 ≤ n) × (slice_get lots (n - 1) ≡ Some l)
at_place lots n l found = by (n == 0) refl found
  where
    by : (b : Bool) → (n == 0) ≡ b → (if b then None else slice_get lots (n - 1)) ≡ Some l → (1 ≤ n) × (slice_get lots (n - 1) ≡ Some l)
    by true e is = cc
    by false e is = (positive n (eqb-false n 0 e), is)

pub from_place : (lots : List LotState) (n : ℕ) (l : LotState) → 1 ≤ n → slice_get lots (n - 1) ≡ Some l → at_number lots n ≡ Some l
from_place lots n l some found =
    let given : (n == 0) ≡ false = false_from_ne_true (n == 0) (λ e. absurd (omega (arith, some, eqb-true n 0 e))) in
    ap (λ b. if b then None else slice_get lots (n - 1)) given ∙ found

-- one lot more has the next number
pub at_more : (lots : List LotState) (x : LotState) (m : ℕ) (k : LotState) → at_number (lots ++ x ∷ []) m ≡ Some k → (at_number lots m ≡ Some k) ⊎ ((m ≡ length lots + 1) × (x ≡ k))
at_more lots x m k at =
    let here = at_place (lots ++ x ∷ []) m k at in
    by here.0 (get_more lots (m - 1) x k here.1)
  where
    by : 1 ≤ m → (slice_get lots (m - 1) ≡ Some k) ⊎ ((m - 1 ≡ length lots) × (x ≡ k)) → (at_number lots m ≡ Some k) ⊎ ((m ≡ length lots + 1) × (x ≡ k))
    by some (inl h) = inl (from_place lots m k some h)
    by some (inr h) = inr (omega (arith, some, h.0), h.1)

-- ---- after a change

-- where a number's lot took the place of one of the same issue
record IsFrom (lots : List LotState) (m : ℕ) (k : LotState) : Type 0 where
  before : LotState
  found : at_number lots m ≡ Some before
  going : before.ended ≡ false
  issue : before.issue ≡ k.issue

-- the lots of other numbers stay where one takes another state
pub at_other : (lots : List LotState) (n m : ℕ) (l x k : LotState) → at_number lots n ≡ Some l → (m ≡ n → ⊥) → at_number (slice_set lots (n - 1) x) m ≡ Some k → at_number lots m ≡ Some k
at_other lots n m l x k found differ changed =
    let here = at_place lots n l found in
    let there = at_place (slice_set lots (n - 1) x) m k changed in
    let apart : m - 1 ≡ n - 1 → ⊥ = λ e. differ (omega (arith, e, here.0, there.0)) in
    from_place lots m k there.0 (sym (get_set_other lots (n - 1) (m - 1) x apart) ∙ there.1)

-- and that of its own number is then just this
pub at_same : (lots : List LotState) (n : ℕ) (l x : LotState) → at_number lots n ≡ Some l → at_number (slice_set lots (n - 1) x) n ≡ Some x
at_same lots n l x found =
    let at = at_place lots n l found in from_place (slice_set lots (n - 1) x) n x at.0 (get_set_same lots (n - 1) l x at.1)

at_changed : (lots : List LotState) (n m : ℕ) (l x k : LotState) → at_number lots n ≡ Some l → at_number (slice_set lots (n - 1) x) m ≡ Some k
    → ((m ≡ n) × (x ≡ k)) ⊎ ((m ≡ n → ⊥) × (at_number lots m ≡ Some k))
at_changed lots n m l x k found changed = by (cases_eq m n)
  where
    by : (m ≡ n) ⊎ (m ≡ n → ⊥) → ((m ≡ n) × (x ≡ k)) ⊎ ((m ≡ n → ⊥) × (at_number lots m ≡ Some k))
    by (inl e) = inl (e, same_Some x k (sym (at_same lots n l x found) ∙ ap (at_number (slice_set lots (n - 1) x)) (sym e) ∙ changed))
    by (inr differ) = inr (differ, at_other lots n m l x k found differ changed)

-- a lot of a number that has not ended changes, and stays of its issue; the lots of other issues stay
pub tied_changed : (open_lots after : List Lot) (lots : List LotState) (n : ℕ) (l x : LotState) → AreTied open_lots lots → at_number lots n ≡ Some l → l.ended ≡ false
    → x.issue ≡ l.issue → (x.ended ≡ false → IsTied after x)
    → ((other : ℕ) → (other ≡ l.issue → ⊥) → lot_of after other ≡ lot_of open_lots other) → AreTied after (slice_set lots (n - 1) x)
tied_changed open_lots after lots n l x are found going issue one others = record {
  each = λ m k at up. each m k at up (at_changed lots n m l x k found at);
  once = λ m p k j at_m at_p up_k up_j same.
      let first = from m k at_m up_k (at_changed lots n m l x k found at_m) in
      let second = from p j at_p up_j (at_changed lots n p l x j found at_p) in
      are.once m p first.before second.before first.found second.found first.going second.going (first.issue ∙ same ∙ sym second.issue);
}
  where
    each : (m : ℕ) (k : LotState) → at_number (slice_set lots (n - 1) x) m ≡ Some k → k.ended ≡ false
        → ((m ≡ n) × (x ≡ k)) ⊎ ((m ≡ n → ⊥) × (at_number lots m ≡ Some k)) → IsTied after k
    each m k at up (inl h) = subst (λ (y : LotState). y.ended ≡ false → IsTied after y) h.1 one up
    each m k at up (inr h) =
        let tied = are.each m k h.1 up in
        let other : k.issue ≡ l.issue → ⊥ = λ e. h.0 (are.once m n k l h.1 found up going e) in
        record { twin = tied.twin; found = others k.issue other ∙ tied.found; is = tied.is }

    from : (m : ℕ) (k : LotState) → at_number (slice_set lots (n - 1) x) m ≡ Some k → k.ended ≡ false
        → ((m ≡ n) × (x ≡ k)) ⊎ ((m ≡ n → ⊥) × (at_number lots m ≡ Some k)) → IsFrom lots m k
    from m k at up (inl h) = record {
      before = l;
      found = ap (at_number lots) h.0 ∙ found;
      going = going;
      issue = sym issue ∙ ap (λ (y : LotState). y.issue) h.1;
    }
    from m k at up (inr h) = record { before = k; found = h.1; going = up; issue = refl }

-- the lots where both have one more
pub tied_more : (open_lots : List Lot) (lots : List LotState) (new : Lot) (x : LotState) → AreTied open_lots lots → lot_of open_lots x.issue ≡ None
    → new.issue ≡ x.issue → IsOfPlan new.plan x → AreTied (open_lots ++ new ∷ []) (lots ++ x ∷ [])
tied_more open_lots lots new x are none issue is = record {
  each = λ m k at up. each m k up (at_more lots x m k at);
  once = λ m p k j at_m at_p up_k up_j same. once m p k j up_k up_j same (at_more lots x m k at_m) (at_more lots x p j at_p);
}
  where
    each : (m : ℕ) (k : LotState) → k.ended ≡ false → (at_number lots m ≡ Some k) ⊎ ((m ≡ length lots + 1) × (x ≡ k)) → IsTied (open_lots ++ new ∷ []) k
    each m k up (inl h) =
        let tied = are.each m k h up in
        record { twin = tied.twin; found = found_more open_lots new tied.twin k.issue tied.found; is = tied.is }
    each m k up (inr h) =
        subst (IsTied (open_lots ++ new ∷ [])) h.1 (record { twin = new; found = found_new open_lots new x.issue issue none; is = is })

    apart : (m : ℕ) (k : LotState) → at_number lots m ≡ Some k → k.ended ≡ false → k.issue ≡ x.issue → ⊥
    apart m k at up e =
        let tied = are.each m k at up in
        let no : None ≡ Some tied.twin = sym none ∙ ap (lot_of open_lots) (sym e) ∙ tied.found in cc

    once : (m p : ℕ) (k j : LotState) → k.ended ≡ false → j.ended ≡ false → k.issue ≡ j.issue → (at_number lots m ≡ Some k) ⊎ ((m ≡ length lots + 1) × (x ≡ k))
        → (at_number lots p ≡ Some j) ⊎ ((p ≡ length lots + 1) × (x ≡ j)) → m ≡ p
    once m p k j up_k up_j same (inl h) (inl g) = are.once m p k j h g up_k up_j same
    once m p k j up_k up_j same (inl h) (inr g) = absurd (apart m k h up_k (same ∙ ap (λ (y : LotState). y.issue) (sym g.1)))
    once m p k j up_k up_j same (inr h) (inl g) = absurd (apart p j g up_j (sym same ∙ ap (λ (y : LotState). y.issue) (sym h.1)))
    once m p k j up_k up_j same (inr h) (inr g) = h.0 ∙ sym g.0

-- the lots once that of a number has ended, where it is found
pub ended_lots : (lots : List LotState) (number : ℕ) (l : LotState) → at_number lots number ≡ Some l → with_lot_ended number lots ≡ with_lot number (with_end l) lots
ended_lots lots number l found = ap (λ (o : Option LotState). elim o [ None ↦ lots | Some k ↦ with_lot number (with_end k) lots ]) found

-- lots that have all ended
pub ended_at : (lots : List LotState) (n : ℕ) (k : LotState) → at_number (map with_end lots) n ≡ Some k → k.ended ≡ true
ended_at lots n k at =
    let here = at_place (map with_end lots) n k at in
    by (slice_get lots (n - 1)) (sym (slice_get-map with_end lots (n - 1)) ∙ here.1)
  where
    by : (o : Option LotState) → option_map with_end o ≡ Some k → k.ended ≡ true
    by None e = cc
    by (Some l) e = ap (λ (y : LotState). y.ended) (sym (same_Some (with_end l) k e))

pub tied_ended : (lots : List LotState) → AreTied [] (map with_end lots)
tied_ended lots = record {
  each = λ n k at up. let no : true ≡ false = sym (ended_at lots n k at) ∙ up in cc;
  once = λ m n k l at_m at_n up_k up_l same. let no : true ≡ false = sym (ended_at lots m k at_m) ∙ up_k in cc;
}

-- ---- the plans of the lots by number

-- each lot that has not ended is of the plan of the node's lot, which is as the records have it
pub planned_from : (c : List ClearRecord) (open_lots : List Lot) (lots : List LotState) → AreTied open_lots lots → AreLots c open_lots → ArePlanned c lots
planned_from c open_lots lots tied are n lot found going =
    let twin = tied.each n lot found going in
    let is = lot_found c open_lots lot.issue twin.twin are twin.found in
    record {
      plan = twin.twin.plan;
      of = record {
        later = is.0.later ++ is.0.middle;
        before = is.0.before;
        split = is.0.split ∙ sym (append_assoc is.0.later is.0.middle is.0.before);
        is = is.0.plan ∙ ap (plan_in is.0.before) is.1;
      };
      is = twin.is;
    }

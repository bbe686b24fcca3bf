-- The open lots are as the records have them: as records are added, a lot is opened, and a lot gets more shares.
use Rattle.std.proofs.Common.{◌≡◌, ℕ, ◌≤◌, Bool, cond, not, List, [], ◌∷◌, ◌++◌, length, map, Some, None, refl, sym, ap, ◌∙◌, arith, append_assoc}
use Rattle.std.specs.Prelude.{◌==◌, count_by}
use Rattle.std.proofs.lemmas.Bool.{cond_both, eqb-true, not-true}
use Rattle.std.proofs.lemmas.Bool.Decides.{nat_tests}
use Rattle.std.proofs.lemmas.List.Elements.{All-append, All-cons, All-filter, All-map, All-nil, All-weaker, filter_passes}
use Rattle.std.proofs.lemmas.List.Sums.{sum_by-append, sum_by-cons}
use Rattle.cns_ids.proofs.ListLemmas.{count_by-filter}
use Rattle.cns_allocate.proofs.TurnLemmas.{find-All, find-none, find-passes}
use Rattle.cns_records.specs.declared.clear_record.ClearRecord.{ClearRecord}
use Rattle.cns_records.specs.declared.clear_record.ClearRecord.TheVariants.{Cycle, Allocate}
use Rattle.cns_clearing.specs.Lots.{AreLots, DoesNotDisturb, IsLot, IsQuiet, avail_in, lots_after, lots_opened, lots_poured, new_lot, refilled}
use Rattle.cns_clearing.specs.Pools.{lot_of}
use Rattle.cns_clearing.specs.declared.lot.Lot.{Lot}

-- ---- lots as records are added

-- a record that leaves a lot open leaves it as the records have it
pub lot_more : (c : List ClearRecord) (r : ClearRecord) (lot : Lot) → IsLot c lot → IsQuiet lot.issue r → IsLot (r ∷ c) lot
lot_more c r lot is quiet = record {
  later = r ∷ is.later;
  middle = is.middle;
  before = is.before;
  split = ap (λ l. r ∷ l) is.split;
  opened = is.opened;
  upto = is.upto;
  quiet = (quiet, is.quiet);
  poured = is.poured;
  plan = is.plan;
}

-- whether a lot is of an issue
abbrev pub is_lot_of : ℕ → Lot → Bool
is_lot_of issue lot = lot.issue == issue

-- no lot is open where there is none
pub lots_none : (c : List ClearRecord) → AreLots c []
lots_none c = record { each = All-nil _; once = λ issue. omega arith }

-- the open lots once a record was added
pub lots_more : (c : List ClearRecord) (r : ClearRecord) (lots : List Lot) → AreLots c lots → DoesNotDisturb r lots → AreLots (r ∷ c) (lots_after r lots)
lots_more c (Cycle id) lots are undisturbed = rw undisturbed (lots_none (Cycle id ∷ c))
lots_more c (Allocate a) lots are undisturbed = record {
  each = λ k d below.
      lot_more c (Allocate a) _ (All-filter (λ (lot : Lot). not (lot.issue == a.issue)) (IsLot c) lots are.each k d below)
      (not-true _ (filter_passes (λ (lot : Lot). not (lot.issue == a.issue)) lots k d below));
  once = λ issue. omega (arith, count_by-filter (λ (lot : Lot). not (lot.issue == a.issue)) (is_lot_of issue) lots, are.once issue);
}
lots_more c r lots are undisturbed = record { each = All-weaker (IsLot c) (IsLot (r ∷ c)) (λ lot is. lot_more c r lot is tt) lots are.each; once = are.once }

-- ---- a lot that is opened, and one that gets more shares

-- a new lot is as the records have it
new_is_lot : (c : List ClearRecord) (issue : ℕ) → IsLot c (new_lot c issue)
new_is_lot c issue = record {
  later = [];
  middle = [];
  before = c;
  split = refl;
  opened = refl;
  upto = refl;
  quiet = tt;
  poured = refl;
  plan = refl;
}

-- one more lot, of an issue that had none
pub count_opened : (lots : List Lot) (new : Lot) → ((issue : ℕ) → count_by (is_lot_of issue) lots ≤ 1) → lot_of lots new.issue ≡ None
    → (issue : ℕ) → count_by (is_lot_of issue) (lots ++ new ∷ []) ≤ 1
count_opened lots new once none other =
    let before = find-none (is_lot_of new.issue) lots none in
    let both = sum_by-append (λ (l : Lot). cond (l.issue == other) 1 0) lots (new ∷ []) in
    grind (arith, nat_tests, once other, before, both)

-- the lots with one that is opened
pub lots_new : (c : List ClearRecord) (lots : List Lot) (issue : ℕ) → AreLots c lots → lot_of lots issue ≡ None → AreLots c (lots_opened c issue lots)
lots_new c lots issue are none =
    let new : Lot = new_lot c issue in
    record {
      each = All-append (IsLot c) lots (new ∷ []) are.each (All-cons (IsLot c) new [] (new_is_lot c issue) (All-nil (IsLot c)));
      once = count_opened lots new are.once none;
    }

-- the records of a lot, those before its opening apart
pub lot_split : (c : List ClearRecord) (lot : Lot) → (is : IsLot c lot) → c ≡ (is.later ++ is.middle) ++ is.before
lot_split c lot is = is.split ∙ sym (append_assoc is.later is.middle is.before)

-- a lot that has got all shares that are there
lot_refilled : (c : List ClearRecord) (lot : Lot) → IsLot c lot → IsLot c (record lot { upto = length c; poured = avail_in c lot.issue })
lot_refilled c lot is =
    let same = lot_split c lot is in
    record {
      later = [];
      middle = is.later ++ is.middle;
      before = is.before;
      split = same;
      opened = is.opened;
      upto = ap length same;
      quiet = is.quiet;
      poured = ap (λ l. avail_in l lot.issue) same;
      plan = is.plan;
    }

-- so it is of each lot, whether it is of the issue
lot_poured : (c : List ClearRecord) (issue : ℕ) (lot : Lot) → IsLot c lot → IsLot c (refilled issue (length c) (avail_in c issue) lot)
lot_poured c issue lot is = cond_both (lot.issue == issue) _ _ (IsLot c) (λ e. rw (← eqb-true lot.issue issue e) (lot_refilled c lot is)) (λ e. is)

-- a lot that has other shares is of the same issue
pub refilled_issue : (issue upto poured : ℕ) (lot : Lot) → (refilled issue upto poured lot).issue ≡ lot.issue
refilled_issue issue upto poured lot = grind arith

-- so as many are of an issue
pub count_refilled : (issue upto poured other : ℕ) (lots : List Lot) → count_by (is_lot_of other) (map (refilled issue upto poured) lots) ≡ count_by (is_lot_of other) lots
count_refilled issue upto poured other [] = refl
count_refilled issue upto poured other (lot ∷ lots) =
    omega (arith, count_refilled issue upto poured other lots, ap {B = ℕ} (λ (i : ℕ). cond (i == other) 1 0) (refilled_issue issue upto poured lot), sum_by-cons)

-- the lots once that of an issue has got all shares that are there
pub lots_refilled : (c : List ClearRecord) (lots : List Lot) (issue : ℕ) → AreLots c lots → AreLots c (lots_poured c issue lots)
lots_refilled c lots issue are = record {
  each =
      All-map (IsLot c) (refilled issue (length c) (avail_in c issue)) lots
      (All-weaker (IsLot c) (λ (lot : Lot). IsLot c (refilled issue (length c) (avail_in c issue) lot)) (λ lot is. lot_poured c issue lot is) lots are.each);
  once = λ other. omega (arith, count_refilled issue (length c) (avail_in c issue) other lots, are.once other);
}

-- ---- the lot of an issue

-- a lot that is found is of the issue
pub found_issue : (lots : List Lot) (issue : ℕ) (lot : Lot) → lot_of lots issue ≡ Some lot → lot.issue ≡ issue
found_issue lots issue lot found = eqb-true lot.issue issue (find-passes (is_lot_of issue) lots lot found)

-- and as the records have it
pub lot_found : (c : List ClearRecord) (lots : List Lot) (issue : ℕ) (lot : Lot) → AreLots c lots → lot_of lots issue ≡ Some lot → IsLot c lot × (lot.issue ≡ issue)
lot_found c lots issue lot are found = (find-All (IsLot c) (is_lot_of issue) lots lot are.each found, found_issue lots issue lot found)

-- What the records of a depository come to, as there are more of them.
use Rattle.std.proofs.Common.{◌≡◌, ℕ, ◌+◌, ◌-◌, ◌^◌, ◌<◌, ◌≤◌, Bool, true, false, ◌&&◌, List, [], ◌∷◌, ◌++◌, reverse, length, length-append, Option, Some, None, cond, unwrap_or, refl, sym, ap, ◌∙◌, subst, arith}
use Rattle.std.specs.Prelude.{◌==◌, if◌then◌else◌}
use Rattle.std.specs.HashMap.{get}
use Rattle.std.specs.List.{slice_get}
use Rattle.std.proofs.lemmas.Bool.{and_parts, eqb-true}
use Rattle.cns_journal.proofs.LayoutLemmas.{by_bool}
use Rattle.std.proofs.lemmas.List.{get_or_append_left, get_or_push, length-reverse, reverse-append, reverse-reverse}
use Rattle.std.proofs.lemmas.List.Sums.{sum_by-cons}
use Rattle.std.proofs.lemmas.Option.{slice_get-get_or}
use Rattle.cns_records.specs.declared.dep_record.DepRecord.{DepRecord}
use Rattle.cns_trades.specs.declared.opening.Opening.{Opening}
use Rattle.cns_depository.specs.declared.account.Account.{Account}
use Rattle.cns_depository.specs.declared.account.Account.TheVariants.{Cns, Member}
use Rattle.cns_depository.specs.declared.account.Side.{Side}
use Rattle.cns_depository.specs.declared.account.Side.TheVariants.{Outside, At}
use Rattle.cns_depository.specs.declared.key.Key.{Key}
use Rattle.cns_depository.specs.declared.moved.Moved.{Moved}
use Rattle.cns_depository.specs.declared.movement.Transfer.{Transfer}
use Rattle.cns_depository.specs.declared.place.Place.{Place}
use Rattle.cns_depository.specs.declared.stock.Stock.{Stock}
use Rattle.cns_depository.specs.Account.{same_side}
use Rattle.cns_depository.specs.Openings.{opening_shares}
use Rattle.cns_depository.specs.Stock.{balance_of, brought_to, moved_in, moved_out, part_in, part_out, taken_from, transfer_of}
use Rattle.cns_depository.specs.Totals.{AreTransferred, AreStockTotals, HasIndex, IsStockOf, key_eq, key_of, moved_at, place_eq, record_of}
use Rattle.cns_depository.proofs.MovementLemmas.{earlier_record, equal_sides, newest_record}

-- ---- the index of a record

slice_more : (xs : List DepRecord) (e : DepRecord) (i : ℕ) → i < length xs → slice_get (xs ++ e ∷ []) i ≡ slice_get xs i
slice_more xs e i within =
    slice_get-get_or (xs ++ e ∷ []) i e (omega (arith, within, length-append xs (e ∷ []))) ∙ ap (λ (x : DepRecord). Some x) (get_or_append_left xs (e ∷ []) e i within)
    ∙ sym (slice_get-get_or xs i e within)

slice_last : (xs : List DepRecord) (e : DepRecord) (n : ℕ) → length xs ≡ n → slice_get (xs ++ e ∷ []) n ≡ Some e
slice_last xs e n size = slice_get-get_or (xs ++ e ∷ []) n e (omega (arith, size, length-append xs (e ∷ []))) ∙ ap (λ (x : DepRecord). Some x) (get_or_push xs e e n size)

-- the record that is added stands after the others
index_more : (p : List DepRecord) (e : DepRecord) (k : Key) (index : Option ℕ) → HasIndex p k index
    → HasIndex (e ∷ p) k (if key_eq (key_of e) k then Some (length p) else index)
index_more p e k index has = by_bool (key_eq (key_of e) k)
    (λ is. rw is (omega arith, ap (λ (xs : List DepRecord). slice_get xs (length p)) turned ∙ slice_last (reverse p) e (length p) (length-reverse p) ∙ sym (newest_record e p k is)))
    (λ other. rw other (later other index has))
  where
    turned : reverse (e ∷ p) ≡ reverse p ++ e ∷ []
    turned = reverse-append (e ∷ []) p

    later : key_eq (key_of e) k ≡ false → (o : Option ℕ) → HasIndex p k o → HasIndex (e ∷ p) k o
    later other None had = earlier_record e p k other ∙ had
    later other (Some i) had =
        let within : i < length (reverse p) = omega (arith, had.0, length-reverse p) in
        (omega (arith, had.0), ap (λ (xs : List DepRecord). slice_get xs i) turned ∙ slice_more (reverse p) e i within ∙ had.1 ∙ sym (earlier_record e p k other))

-- the record of a key by the index that is found
pub index_none_of : (p : List DepRecord) (k : Key) (o : Option ℕ) → HasIndex p k o → o ≡ None → record_of p k ≡ None
index_none_of p k o stands none = subst (HasIndex p k) none stands

pub index_some_of : (records : List DepRecord) (k : Key) (i : ℕ) (o : Option ℕ) → HasIndex (reverse records) k o → o ≡ Some i
    → slice_get records i ≡ record_of (reverse records) k
index_some_of records k i o stands some =
    let at = subst (HasIndex (reverse records) k) some stands in
    ap (λ (xs : List DepRecord). slice_get xs i) (sym (reverse-reverse records)) ∙ at.1

-- ---- places

pub swap : (a b : Bool) → (a && b) ≡ (b && a)
swap a b = grind arith

-- a place is that of a side in an issue where both are the same
pub at_place : (x s : Side) (i issue : ℕ) → place_eq (record { issue = i; side = x }) (record { issue = issue; side = s }) ≡ (same_side x s && (i == issue))
at_place Outside Outside i issue = swap (i == issue) true
at_place Outside (At a) i issue = swap (i == issue) false
at_place (At a) Outside i issue = swap (i == issue) false
at_place (At Cns) (At Cns) i issue = swap (i == issue) true
at_place (At Cns) (At (Member m)) i issue = swap (i == issue) false
at_place (At (Member m)) (At Cns) i issue = swap (i == issue) false
at_place (At (Member m)) (At (Member n)) i issue = swap (i == issue) (m == n)

pub equal_places : (a b : Place) → place_eq a b ≡ true → a ≡ b
equal_places a b e =
    let both = and_parts (same_side a.side b.side) (a.issue == b.issue) (sym (at_place a.side b.side a.issue b.issue) ∙ e) in
    let issue = eqb-true a.issue b.issue both.1 in
    let side = equal_sides a.side b.side both.0 in
    λ i. record { issue = issue i; side = side i }

-- a number of each place grows by n where w is put at a place, and stays everywhere else
pub put_adds : (at : Moved → ℕ) (k : Place) (w : Moved) (n : ℕ) (old new : Place → Option Moved) → ((q : Place) → new q ≡ cond (place_eq k q) (Some w) (old q)) → at w ≡ at (moved_at (old k)) + n
    → (q : Place) → at (moved_at (new q)) ≡ at (moved_at (old q)) + (if place_eq k q then n else 0)
put_adds at k w n old new puts more q = by_bool (place_eq k q)
    (λ is. rw is (ap (λ o. at (moved_at o)) (rw is at (puts q)) ∙ more ∙ ap (λ (z : Place). at (moved_at (old z)) + n) (equal_places k q is)))
    (λ other. rw other (ap (λ o. at (moved_at o)) (rw other at (puts q)) ∙ omega arith))

-- and all stay where w has the number that was there
pub put_same : (at : Moved → ℕ) (k : Place) (w : Moved) (old new : Place → Option Moved) → ((q : Place) → new q ≡ cond (place_eq k q) (Some w) (old q)) → at w ≡ at (moved_at (old k))
    → (q : Place) → at (moved_at (new q)) ≡ at (moved_at (old q))
put_same at k w old new puts same q = by_bool (place_eq k q)
    (λ is. ap (λ o. at (moved_at o)) (rw is at (puts q)) ∙ same ∙ ap (λ (z : Place). at (moved_at (old z))) (equal_places k q is))
    (λ other. ap (λ o. at (moved_at o)) (rw other at (puts q)))

-- what is found for a place, nothing where it is not named
pub moved_found : (found : Option Moved) (now : Moved) (entry : Option Moved) → now ≡ unwrap_or entry (record { entered = 0; left = 0 }) → entry ≡ found → now ≡ moved_at found
moved_found found now entry value same = value ∙ ap (λ (o : Option Moved). unwrap_or o (record { entered = 0; left = 0 })) same ∙ by found
  where
    by : (o : Option Moved) → unwrap_or o (record { entered = 0; left = 0 }) ≡ moved_at o
    by None = refl
    by (Some m) = refl

-- ---- the totals

at_most : (b : Bool) (n : ℕ) → (if b then n else 0) ≤ n
at_most b n = grind arith

-- those of no records
pub sums_none : (moved : Place → Moved) → ((k : Place) → moved k ≡ record { entered = 0; left = 0 }) → AreTransferred moved []
unfolding brought_to taken_from
sums_none moved nothing = record {
  entered = λ a i. ap (λ (m : Moved). m.entered) (nothing (record { issue = i; side = a }));
  left = λ a i. ap (λ (m : Moved). m.left) (nothing (record { issue = i; side = a }));
  few = omega arith;
  entered_small = λ a i. omega arith;
  left_small = λ a i. omega arith;
}

pub totals_none : (moved : Place → Moved) (indices : Key → Option ℕ) → ((k : Place) → moved k ≡ record { entered = 0; left = 0 }) → ((k : Key) → indices k ≡ None) → AreStockTotals moved indices []
totals_none moved indices nothing none = record { sums = sums_none moved nothing; found = λ n. subst (HasIndex [] n) (sym (none n)) refl }

-- look-ups alone count
pub sums_kept : (moved now : Place → Moved) (p : List DepRecord) → ((k : Place) → now k ≡ moved k) → AreTransferred moved p → AreTransferred now p
sums_kept moved now p same sums = record {
  entered = λ a i. ap (λ (m : Moved). m.entered) (same (record { issue = i; side = a })) ∙ sums.entered a i;
  left = λ a i. ap (λ (m : Moved). m.left) (same (record { issue = i; side = a })) ∙ sums.left a i;
  few = sums.few;
  entered_small = sums.entered_small;
  left_small = sums.left_small;
}

pub totals_kept : (moved now : Place → Moved) (indices after : Key → Option ℕ) (p : List DepRecord) → ((k : Place) → now k ≡ moved k) → ((k : Key) → after k ≡ indices k)
    → AreStockTotals moved indices p → AreStockTotals now after p
totals_kept moved now indices after p same found totals = record { sums = sums_kept moved now p same totals.sums; found = λ n. subst (HasIndex p n) (sym (found n)) (totals.found n) }

-- those with one more record
pub sums_more : (moved now : Place → Moved) (p : List DepRecord) (e : DepRecord) (t : Transfer) (shares : ℕ) → AreTransferred moved p
    → length p < 2 ^ 64 → t ≡ transfer_of e → shares ≡ t.shares → t.shares ≤ 10 ^ 18
    → ((k : Place) → (now k).entered ≡ (moved k).entered + (if place_eq (record { issue = t.issue; side = t.receiver }) k then shares else 0))
    → ((k : Place) → (now k).left ≡ (moved k).left + (if place_eq (record { issue = t.issue; side = t.giver }) k then shares else 0))
    → AreTransferred now (e ∷ p)
unfolding brought_to taken_from
sums_more moved now p e t shares sums few is worth small entered left =
    let into : Side → ℕ → DepRecord → ℕ = λ a i x. part_in a i (transfer_of x) in
    let out : Side → ℕ → DepRecord → ℕ = λ a i x. part_out a i (transfer_of x) in
    let within : (transfer_of e).shares ≤ 10 ^ 18 = subst (λ (x : Transfer). x.shares ≤ 10 ^ 18) is small in
    record {
      entered = λ a i.
          let here = ap (λ (b : Bool). if b then shares else 0) (at_place t.receiver a t.issue i) in
          let part : (if same_side t.receiver a && (t.issue == i) then shares else 0) ≡ into a i e =
          ap (λ (n : ℕ). if same_side t.receiver a && (t.issue == i) then n else 0) worth ∙ ap (part_in a i) is in
          omega (arith, entered (record { issue = i; side = a }), sums.entered a i, here, part, sum_by-cons (into a i) e p);
      left = λ a i.
          let here = ap (λ (b : Bool). if b then shares else 0) (at_place t.giver a t.issue i) in
          let part : (if same_side t.giver a && (t.issue == i) then shares else 0) ≡ out a i e =
          ap (λ (n : ℕ). if same_side t.giver a && (t.issue == i) then n else 0) worth ∙ ap (part_out a i) is in
          omega (arith, left (record { issue = i; side = a }), sums.left a i, here, part, sum_by-cons (out a i) e p);
      few = omega (arith, few);
      entered_small = λ a i.
          let most : into a i e ≤ (transfer_of e).shares = at_most (same_side (transfer_of e).receiver a && ((transfer_of e).issue == i)) (transfer_of e).shares in
          omega (arith, sums.entered_small a i, within, most, sum_by-cons (into a i) e p);
      left_small = λ a i.
          let most : out a i e ≤ (transfer_of e).shares = at_most (same_side (transfer_of e).giver a && ((transfer_of e).issue == i)) (transfer_of e).shares in
          omega (arith, sums.left_small a i, within, most, sum_by-cons (out a i) e p);
    }

-- a balance by what an account opened with and what was moved into it and out of it
pub balance_by : (s : Stock) (openings : List Opening) (p : List DepRecord) (a : Account) (issue : ℕ) (m : Moved) (opened balance : ℕ) → IsStockOf s p
    → m ≡ moved_at (get place_eq s.moved (record { issue = issue; side = At a })) → opened ≡ opening_shares openings a issue → opened ≤ 10 ^ 18
    → (opened + m.entered < 2 ^ 128 → balance ≡ (opened + m.entered) - m.left) → balance ≡ balance_of openings p a issue
unfolding balance_of
balance_by s openings p a issue m opened balance are is opens small adds =
    let entered : m.entered ≡ moved_in p a issue = ap (λ (x : Moved). x.entered) is ∙ are.sums.entered (At a) issue in
    let left : m.left ≡ moved_out p a issue = ap (λ (x : Moved). x.left) is ∙ are.sums.left (At a) issue in
    let most : opened + m.entered < 2 ^ 128 = omega (arith, small, entered, are.sums.few, are.sums.entered_small (At a) issue) in
    omega (arith, adds most, opens, entered, left)

pub found_more : (indices after : Key → Option ℕ) (p : List DepRecord) (e : DepRecord) → ((k : Key) → HasIndex p k (indices k))
    → ((k : Key) → after k ≡ (if key_eq (key_of e) k then Some (length p) else indices k)) → (k : Key) → HasIndex (e ∷ p) k (after k)
found_more indices after p e had found k = subst (HasIndex (e ∷ p) k) (sym (found k)) (index_more p e k (indices k) (had k))

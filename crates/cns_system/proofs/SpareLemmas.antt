-- What each event may leave of the lots by number, and of the node's open lots of their issues.
use Rattle.std.proofs.Common.{◌≡◌, ◌≤◌, ◌∙◌, ◌+◌, ◌++◌, [], ◌∷◌, ℕ, true, false, List, length, Option, Some, None, not, sym, ap, refl, arith, inl, inr}
use Rattle.std.specs.Prelude.{◌⊎◌, map}
use Rattle.std.proofs.lemmas.List.{length-append, length-map, length-set}
use Rattle.cns_wire.specs.Packet.{at_number}
use Rattle.cns_clearing.specs.Lots.{lots_poured}
use Rattle.cns_clearing.specs.Pools.{lot_of}
use Rattle.cns_clearing.specs.declared.lot.Lot.{Lot}
use Rattle.cns_clearing.proofs.LotLemmas.{found_issue}
use Rattle.cns_system.specs.Floor.{has_not_ended, is_open}
use Rattle.cns_system.specs.Lot.{LotState, numbered_lot, with_end}
use Rattle.cns_system.specs.Lots.{with_lot}
use Rattle.cns_system.specs.Numbered.{AreTied, with_lot_ended}
use Rattle.cns_system.specs.Shown.{Shown, clear_added}
use Rattle.cns_system.proofs.LotsLemmas.{IsGoing, with_new_lot}
use Rattle.cns_system.proofs.NumberedLemmas.{others_poured}
use Rattle.cns_system.proofs.RecordedLemmas.{IsClose, allocated}
use Rattle.cns_system.proofs.TiedLemmas.{at_more, at_other, ended_at, ended_lots, found_more, found_without}

-- a lot of a number that was given, and that has not ended, was just the same before, and so was the node's open lot of its issue; but for the one of this
-- number, where it had not ended
abbrev pub KeepsRest : Option ℕ → Shown → Shown → Type 0
KeepsRest changed w left =
    (n : ℕ) (l : LotState) → (changed ≡ Some n → is_open w.lots n ≡ false) → n ≤ length w.lots → at_number left.lots n ≡ Some l → l.ended ≡ false
    → (at_number w.lots n ≡ Some l) × (lot_of left.open_lots l.issue ≡ lot_of w.open_lots l.issue)

-- so it is, where the lots are tied, and numbers that were given stay given
pub record KeepsLots (changed : Option ℕ) (w left : Shown) : Type 0 where
  pub longer : length w.lots ≤ length left.lots
  pub rest : AreTied w.open_lots w.lots → KeepsRest changed w left

-- ---- by what becomes of the lots

-- the lots stay
pub rest_same : (changed : Option ℕ) (w left : Shown) → left.lots ≡ w.lots → left.open_lots ≡ w.open_lots → KeepsRest changed w left
rest_same changed w left lots open_lots n l spared given found going =
    (ap (λ (ls : List LotState). at_number ls n) (sym lots) ∙ found, ap (λ (ls : List Lot). lot_of ls l.issue) open_lots)

-- so they are kept
pub keeps_same : (changed : Option ℕ) (w left : Shown) → left.lots ≡ w.lots → left.open_lots ≡ w.open_lots → KeepsLots changed w left
keeps_same changed w left lots open_lots =
    record { longer = omega (arith, ap length lots); rest = λ tied. rest_same changed w left lots open_lots }

-- one more lot is opened
pub opens_one : (w : Shown) (lot : Lot) → KeepsLots None w (with_new_lot lot w)
opens_one w lot = record {
  longer = omega (arith, length-append w.lots (numbered_lot lot.issue lot.plan ∷ []));
  rest = λ tied n l spared given found going. by tied n l given going (at_more w.lots (numbered_lot lot.issue lot.plan) n l found);
}
  where
    by : AreTied w.open_lots w.lots → (n : ℕ) (l : LotState) → n ≤ length w.lots → l.ended ≡ false
        → (at_number w.lots n ≡ Some l) ⊎ ((n ≡ length w.lots + 1) × (numbered_lot lot.issue lot.plan ≡ l))
        → (at_number w.lots n ≡ Some l) × (lot_of (w.open_lots ++ lot ∷ []) l.issue ≡ lot_of w.open_lots l.issue)
    by tied n l given going (inl there) =
        let twin = tied.each n l there going in (there, found_more w.open_lots lot twin.twin l.issue twin.found ∙ sym twin.found)
    by tied n l given going (inr last) = absurd (omega (arith, given, last.0))

-- only the lot of a number changes, which has not ended, and the node's open lot of its issue
changes_one : (w left : Shown) (number : ℕ) (lot : LotState) → IsGoing w.lots number lot → length left.lots ≡ length w.lots
    → ((n : ℕ) (l : LotState) → (n ≡ number → ⊥) → at_number left.lots n ≡ Some l → at_number w.lots n ≡ Some l)
    → ((other : ℕ) → (other ≡ lot.issue → ⊥) → lot_of left.open_lots other ≡ lot_of w.open_lots other) → KeepsLots (Some number) w left
changes_one w left number lot at len lots open_lots = record {
  longer = omega (arith, len);
  rest = λ tied n l spared given found going.
      let is : is_open w.lots number ≡ true = ap has_not_ended at.found ∙ ap not at.going in
      let other : n ≡ number → ⊥ = λ same. let shut = spared (ap Some (sym same)) in cc in
      let there = lots n l other found in
      (there, open_lots l.issue (λ same. other (tied.once n number l lot there at.found going at.going same)));
}

-- the lot of a number takes another state
pub updates_one : (w left : Shown) (number : ℕ) (lot x : LotState) → IsGoing w.lots number lot → left.lots ≡ with_lot number x w.lots
    → ((other : ℕ) → (other ≡ lot.issue → ⊥) → lot_of left.open_lots other ≡ lot_of w.open_lots other) → KeepsLots (Some number) w left
updates_one w left number lot x at is open_lots =
    changes_one w left number lot at (ap length is ∙ length-set _ _ _)
    (λ n l other found. at_other w.lots number n lot x l at.found other (ap (λ (lots : List LotState). at_number lots n) (sym is) ∙ found)) open_lots

-- all lots end
pub ends_all : (w left : Shown) → left.lots ≡ map with_end w.lots → KeepsLots None w left
ends_all w left is = record {
  longer = omega (arith, ap length is ∙ length-map w.lots with_end);
  rest = λ tied n l spared given found going.
      let over : l.ended ≡ true = ended_at w.lots n l (ap (λ (lots : List LotState). at_number lots n) (sym is) ∙ found) in cc;
}

-- the lot of a number is closed
pub closes_one : (w : Shown) (number : ℕ) (close : IsClose number w.open_lots w.lots)
    → KeepsLots (Some number) w (record (clear_added (allocated close) w) { lots = with_lot_ended number w.lots })
closes_one w number close =
    let lot = close.lot in
    let issue : close.twin.issue ≡ lot.issue = found_issue w.open_lots lot.issue close.twin close.found in
    updates_one w _ number lot (with_end lot) close.at (ended_lots w.lots number lot close.at.found)
    (λ other differ. found_without close.twin.issue other w.open_lots (λ same. differ (same ∙ issue)))

-- the lot of a number is poured into
pub pours_one : (w : Shown) (number : ℕ) (lot : LotState) → IsGoing w.lots number lot
    → KeepsLots (Some number) w (record w { open_lots = lots_poured w.clear.records lot.issue w.open_lots })
pours_one w number lot at =
    changes_one w _ number lot at refl (λ n l other found. found) (λ other differ. others_poured w.clear.records lot.issue other w.open_lots differ)

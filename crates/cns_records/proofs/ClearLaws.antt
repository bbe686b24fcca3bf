-- The two laws of the clearing node's records: what is read is spelled so, and what is spelled so is read.
-- With them: no two records are spelled alike.
use Rattle.std.proofs.Common.{◌≡◌, ◌≢◌, ℕ, ◌^◌, ◌<◌, ◌≤◌, Bool, true, false, List, ◌∷◌, ◌++◌, length, Result, Ok, Err, refl, sym, ap, subst, ◌∙◌, inl, inr, arith, lit≤}
use Rattle.std.specs.Prelude.{IfOk, IsErrAnd, ◌==◌, not}
use Rattle.std.specs.Int.{w16, w64, to_be_bytes}
use Rattle.std.proofs.lemmas.Bool.{eqb-true, eqb-false, ne_eqb, not-true, leb-true, le-leb}
use Rattle.cns_ids.specs.Cusip.{IsCusip, cusip_text}
use Rattle.cns_ids.specs.Shares.{IsShares}
use Rattle.cns_trades.specs.TradeId.{IsId}
use Rattle.std.proofs.lemmas.Bool.Decides.{nat_tests}
use Rattle.std.proofs.lemmas.List.{append_assoc, length-append}
use Rattle.cns_trades.specs.declared.trade.Trade.{Trade}
use Rattle.cns_ids.specs.declared.cycle.CycleId.{CycleId}
use Rattle.cns_records.specs.declared.clear_record.ClearRecord.{ClearRecord}
use Rattle.cns_records.specs.declared.clear_record.ClearRecord.TheVariants.{Accept, Exempt, Priority, Cycle, Allocate, Confirm}
use Rattle.cns_journal.specs.declared.record_log.RecordFault.{RecordFault}
use Rattle.cns_journal.specs.declared.record_log.RecordFault.TheVariants as fault
use Rattle.cns_records.specs.declared.allocation.Allocation.{Allocation}
use Rattle.cns_records.specs.Fields.{bad, ◌&◌, whole_at, id_bytes, flag_bytes, member_at, issue_at, shares_at, flag_at, cycle_at, reply_at}
use Rattle.cns_records.specs.Clear.{spelling, IsTradeInRange, IsAllocationInRange, HasRanges, IsWritable, HasPayload, trade_at, entry_at, lot_at, allocation_of, allocate_of, read_clear_of, ReadsAs}
use Rattle.cns_records.specs.Clear as clear
use Rattle.cns_records.specs.Drawn.{drawn_bytes, drawn_of, AnswersIfRoom}
use Rattle.cns_movements.specs.Fields.{cycle_bytes, day_bytes, reply_bytes}
use Rattle.cns_movements.specs.declared.version.Version.{Version}
use Rattle.cns_movements.specs.declared.version.Version.TheVariants.{One, Two}
use Rattle.cns_movements.proofs.BytesLemmas.{IsBytes}
use Rattle.cns_records.proofs.FieldLemmas.{bind_ok, ok_value, chosen, done, ok_is, IsField, step, chain, both_field, made_field, tested_field, told_field, number_field, wide64}
use Rattle.cns_records.proofs.FieldLaws.{id_field, day_field, cycle_field, member_field, issue_field, quantity_field, shares_field, flag_field, reply_field}
use Rattle.cns_records.proofs.RecordLemmas.{Spells, IsKind, IsOfKind, of_kind, no_kind, or_kind, whole_takes, whole_again, payload_takes}
use Rattle.cns_records.proofs.DrawnLaws.{drawn_takes, drawn_again, tickets_length}

id_short : (id : List ℕ) → IsId id → length id ≤ 16
id_short id is = grind (arith, nat_tests)

cycle_short : (id : CycleId) → length (1 ∷ 4 ∷ cycle_bytes id) ≤ 1048576
cycle_short id = lit≤ tt

flag_length : (on : Bool) → length (flag_bytes on) ≡ 1
flag_length false = refl
flag_length true = refl

allocate_short : (a : Allocation) → length a.drawn ≤ 9999 → length (spelling (Allocate a)) ≤ 1048576
unfolding spelling
allocate_short a few =
    let rest = drawn_bytes a.drawn in
    omega (arith, length-append (flag_bytes a.sealed) rest, flag_length a.sealed, tickets_length a.drawn)

bad_is_not_ok : (r : ClearRecord) → bad ≡ done r → ⊥
bad_is_not_ok r e = cc

-- ---- the kinds

trade_field : IsField trade_at (λ t. id_bytes t.id ++ (day_bytes t.settle ++ (to_be_bytes w16 t.buyer ++ (to_be_bytes w16 t.seller ++ (cusip_text t.issue ++ to_be_bytes w64 t.quantity)))))
    (λ t. IsTradeInRange t × (t.buyer ≢ t.seller))
unfolding trade_at
trade_field =
    let fields = both_field id_field (both_field day_field (both_field member_field (both_field member_field (both_field issue_field quantity_field)))) in
    let trade = made_field fields _ (λ (t : Trade). (t.id, (t.settle, (t.buyer, (t.seller, (t.issue, t.quantity)))))) IsTradeInRange
    (λ t f. (refl, record { id = f.0; settle = f.1.0; buyer = f.1.1.0; seller = f.1.1.1.0; issue = f.1.1.1.1.0; quantity = f.1.1.1.1.1 }))
    (λ t is. (refl, (is.id, (is.settle, (is.buyer, (is.seller, (is.issue, is.quantity))))))) in
    tested_field trade _ _ (λ t is differ. (is, eqb-false _ _ (not-true _ differ))) (λ t is. (is.0, ap not (ne_eqb t.buyer t.seller is.1)))

accept_kind : IsKind spelling HasPayload One 1 trade_at (λ t. Accept t)
unfolding spelling
accept_kind = record { fields = trade_field; spelled = λ t fits. refl }

exempt_kind : IsKind spelling HasPayload One 2 (member_at & issue_at & shares_at) (λ x. Exempt x.0 x.1.0 x.1.1)
unfolding spelling
exempt_kind =
    let fields = both_field member_field (both_field issue_field shares_field) in
    record { fields = told_field fields (λ x f. ((f.0, f.1.0, f.1.1), tt)) (λ x p. (p.0.0, (p.0.1, p.0.2))); spelled = λ x fits. refl }

priority_kind : IsKind spelling HasPayload One 3 (member_at & issue_at & flag_at) (λ x. Priority x.0 x.1.0 x.1.1)
unfolding spelling
priority_kind =
    let fields = both_field member_field (both_field issue_field flag_field) in
    record { fields = told_field fields (λ x f. ((f.0, f.1.0), tt)) (λ x p. (p.0.0, (p.0.1, tt))); spelled = λ x fits. refl }

cycle_kind : IsKind spelling HasPayload One 4 cycle_at (λ id. Cycle id)
unfolding spelling
cycle_kind = record { fields = told_field cycle_field (λ id f. (f, tt)) (λ id p. p.0); spelled = λ id fits. refl }

confirm_kind : IsKind spelling HasPayload One 6 reply_at (λ r. Confirm r)
unfolding spelling
confirm_kind = record { fields = told_field reply_field (λ r f. (f, tt)) (λ r p. p.0); spelled = λ r fits. refl }

entry_kind : (kind : ℕ) → IsOfKind spelling HasPayload One kind (entry_at kind)
unfolding entry_at
entry_kind kind = or_kind 1 (of_kind accept_kind) (or_kind 2 (of_kind exempt_kind) (or_kind 3 (of_kind priority_kind) (or_kind 4 (of_kind cycle_kind) (or_kind 6 (of_kind confirm_kind) no_kind))))

-- ---- an allocation

abbrev lot_bytes : ℕ × (ℕ × (ℕ × (ℕ × Bool))) → List ℕ
lot_bytes lot = cusip_text lot.0 ++ (to_be_bytes w64 lot.1.0 ++ (to_be_bytes w64 lot.1.1.0 ++ (to_be_bytes w64 lot.1.1.1.0 ++ flag_bytes lot.1.1.1.1)))

lot_field : IsField lot_at lot_bytes (λ lot. (IsCusip lot.0 × ((lot.1.0 < 2 ^ 64) × ((lot.1.1.0 < 2 ^ 64) × (IsShares lot.1.1.1.0 × Unit {0})))) × (lot.1.0 ≤ lot.1.1.0))
unfolding lot_at
lot_field =
    let fields = both_field issue_field (both_field (number_field wide64) (both_field (number_field wide64) (both_field shares_field flag_field))) in
    tested_field fields _ _ (λ lot f le. (f, leb-true _ _ le)) (λ lot is. (is.0, le-leb _ _ is.1))

allocation_spelled : (a : Allocation) → spelling (Allocate a) ≡ 1 ∷ 5 ∷ (lot_bytes (a.issue, (a.opened, (a.upto, (a.poured, a.sealed)))) ++ drawn_bytes a.drawn)
unfolding spelling
allocation_spelled a = simp append_assoc

allocation_takes : (bytes : List ℕ) (a : Allocation) → IsBytes bytes → allocation_of bytes ≡ Ok a → Spells spelling HasPayload One 5 bytes (Allocate a)
unfolding allocation_of
allocation_takes bytes a fits e =
    let lot = step lot_field bytes _ a fits e in
    let drawn = bind_ok (drawn_of lot.rest) _ a lot.then in
    let d = drawn_takes lot.rest drawn.0 lot.rest_fits drawn.1 in
    let x = lot.value in
    let f = lot.fits.0 in
    let allocation : Allocation = record { issue = x.0; opened = x.1.0; upto = x.1.1.0; poured = x.1.1.1.0; sealed = x.1.1.1.1; drawn = drawn.0 } in
    let ranges : IsAllocationInRange allocation = record { issue = f.0; opened = f.1.0; upto = f.1.1.0; poured = f.1.1.1.0; drawn = d.1 } in
    let spelled = allocation_spelled allocation ∙ ap (λ (t : List ℕ). 1 ∷ 5 ∷ t) (sym (chain (lot_bytes x) lot.parts d.0)) in
    subst (λ (b : Allocation). Spells spelling HasPayload One 5 bytes (Allocate b)) (ok_is allocation a drawn.2) (spelled, (ranges, (lot.fits.1, d.2)))

-- ---- a payload

kind_takes : (version : Version) (kind : ℕ) (bytes : List ℕ) (r : ClearRecord) → IsBytes bytes → clear.record_of_kind version kind bytes ≡ Ok r
    → Spells spelling HasPayload version kind bytes r
kind_takes Two kind bytes r fits e = absurd cc
kind_takes One kind bytes r fits e = elim (chosen (kind == 5) (allocate_of bytes) (whole_at (entry_at kind) bytes) (Ok r) e) [
  | inl f ↦
      let a = bind_ok (allocation_of bytes) _ r f.1 in
      subst (λ (k : ℕ). Spells spelling HasPayload One k bytes r) (sym (eqb-true kind 5 f.0))
      (subst (Spells spelling HasPayload One 5 bytes) (ok_is (Allocate a.0) r a.2) (allocation_takes bytes a.0 fits a.1))
  | inr f ↦ whole_takes (entry_kind kind) bytes r fits f.1
]

-- bytes that are read as no allocation, or as one for which memory is short
pub no_allocation : (payload fields : List ℕ) (f : RecordFault) (answer : Result ClearRecord RecordFault) → read_clear_of payload ≡ allocate_of fields → AnswersIfRoom (Err f) (allocation_of fields)
    → IsErrAnd answer (λ g. g ≡ f) → ReadsAs payload answer
no_allocation payload fields f (Ok r) is none same = absurd same
no_allocation payload fields f (Err g) is none same = subst (λ (h : RecordFault). ReadsAs payload (Err h)) (sym same) (told f none) where
  of_value : {a : Allocation} → allocation_of fields ≡ Ok a → allocate_of fields ≡ Ok (Allocate a)
  of_value e = rw e refl

  told : (f : RecordFault) → AnswersIfRoom (Err f) (allocation_of fields) → ReadsAs payload (Err f)
  told fault.BadRecord none = is ∙ rw none refl
  told fault.OutOfMemory some = let allocation = ok_value (allocation_of fields) some in (allocation.0, is ∙ of_value allocation.1)

-- A record with its ranges is read again, where it is writable.
pub read-spelling : (r : ClearRecord) → HasRanges r → IsWritable r → read_clear_of (spelling r) ≡ Ok r
unfolding read_clear_of spelling entry_at allocation_of
read-spelling (Accept t) fits differ = whole_again accept_kind t (fits, differ)
read-spelling (Exempt m i s) fits u = whole_again exempt_kind (m, (i, s)) (fits, u)
read-spelling (Priority m i on) fits u = whole_again priority_kind (m, (i, on)) (fits, u)
read-spelling (Cycle id) fits u = whole_again cycle_kind id (fits, u)
read-spelling (Allocate a) fits writable =
    let lot = lot_field.again (a.issue, (a.opened, (a.upto, (a.poured, a.sealed)))) (drawn_bytes a.drawn) ((fits.issue, (fits.opened, (fits.upto, (fits.poured, tt)))), writable.0) in
    ap read_clear_of (allocation_spelled a) ∙ rw (lot, drawn_again a.drawn fits.drawn writable.1) refl
read-spelling (Confirm r) fits u = whole_again confirm_kind r (fits, u)

-- what read answers
pub is_spelled : (bytes : List ℕ) (r : Result ClearRecord RecordFault) → IsBytes bytes → ReadsAs bytes r → IfOk r (λ v. (spelling v ≡ bytes) × IsWritable v)
unfolding read_clear_of
is_spelled bytes (Ok v) fits e = let t = payload_takes spelling HasPayload clear.record_of_kind kind_takes bytes v fits e in (t.0, t.1.1)
is_spelled bytes (Err f) fits e = tt

-- how long a payload can be
pub spelling_short : (r : ClearRecord) → HasRanges r → length (spelling r) ≤ 1048576
unfolding spelling reply_bytes
spelling_short (Accept t) fits =
    let rest : List ℕ = day_bytes t.settle ++ (to_be_bytes w16 t.buyer ++ (to_be_bytes w16 t.seller ++ (cusip_text t.issue ++ to_be_bytes w64 t.quantity))) in
    let id : length t.id ≤ 16 = id_short t.id fits.id in
    let size = length-append t.id rest in
    omega (arith, size, id)
spelling_short (Exempt m i s) fits = lit≤ tt
spelling_short (Priority m i false) fits = lit≤ tt
spelling_short (Priority m i true) fits = lit≤ tt
spelling_short (Cycle id) fits = cycle_short id
spelling_short (Allocate a) fits = allocate_short a fits.drawn.few
spelling_short (Confirm r) fits = lit≤ tt

-- No two records are spelled alike.
pub spelling_injective : (a b : ClearRecord) → HasPayload a → HasPayload b → spelling a ≡ spelling b → a ≡ b
spelling_injective a b of_a of_b same = ok_is a b (sym (read-spelling a of_a.0 of_a.1) ∙ ap read_clear_of same ∙ read-spelling b of_b.0 of_b.1)

-- A payload that is no record is that of none.
pub bad_is_none : (payload : List ℕ) (answer : Result ClearRecord RecordFault) → ReadsAs payload answer → answer ≡ Err fault.BadRecord
    → (r : ClearRecord) → HasPayload r → spelling r ≡ payload → ⊥
bad_is_none payload answer read is r of_r spelled =
    let none : read_clear_of payload ≡ bad = subst (ReadsAs payload) is read in
    bad_is_not_ok r (sym none ∙ ap read_clear_of (sym spelled) ∙ read-spelling r of_r.0 of_r.1)

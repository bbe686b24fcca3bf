-- The two laws of the depository's records: what is read is spelled so, and what is spelled so is read.
-- With them: no two records are spelled alike.
use Rattle.std.proofs.Common.{◌≡◌, ℕ, ◌≤◌, List, ◌∷◌, ◌++◌, length, Result, Ok, Err, refl, sym, ap, subst, ◌∙◌, inl, inr, arith, lit≤}
use Rattle.std.specs.Prelude.{IfOk, ◌==◌, nat_le, if◌then◌else◌}
use Rattle.std.specs.Int.{w16, w64, to_be_bytes}
use Rattle.cns_ids.specs.Cusip.{cusip_text}
use Rattle.std.proofs.lemmas.Bool.{eqb-true, leb-true, le-leb}
use Rattle.std.proofs.lemmas.List.{append_assoc, length-append}
use Rattle.cns_movements.specs.Fields.{order_bytes, order_size, version_byte, version_of}
use Rattle.cns_movements.specs.declared.order.MoveKind.{MoveKind}
use Rattle.cns_movements.specs.declared.order.MoveKind.TheVariants.{Cover, Delivery}
use Rattle.cns_movements.specs.declared.version.Version.{Version}
use Rattle.cns_movements.specs.declared.version.Version.TheVariants.{One, Two}
use Rattle.cns_records.specs.declared.bad_record.BadRecord.{BadRecord}
use Rattle.cns_records.specs.declared.dep_record.DepRecord.{DepRecord}
use Rattle.cns_records.specs.declared.dep_record.DepRecord.TheVariants.{Exec, Own}
use Rattle.cns_records.specs.Fields.{bad, ◌&◌, tested_at, order_at, shares_at, move_kind_bytes}
use Rattle.cns_records.specs.Dep.{dep_spelling, HasDepRanges, IsDepWritable, HasDepPayload, exec_of, own_of, dep_of_kind, read_dep_of}
use Rattle.cns_records.specs.Instruction.{instruction_at, sort_bytes}
use Rattle.cns_records.specs.declared.instruction.Sort.{Sort}
use Rattle.cns_records.specs.declared.instruction.Sort.TheVariants.{Deposit, Withdraw}
use Rattle.cns_movements.proofs.BytesLemmas.{IsBytes}
use Rattle.cns_movements.proofs.FieldLemmas.{length-order_bytes}
use Rattle.cns_records.proofs.FieldLemmas.{chosen, done, ok_is, both_field, spelled_field, tested_field, told_field}
use Rattle.cns_records.proofs.FieldLaws.{instruction_field, order_field, shares_field}
use Rattle.cns_records.proofs.RecordLemmas.{after_kind, Spells, IsKind, of_kind, whole_takes, whole_again, payload_of, payload_takes}

-- a record with a payload, whose order is written in this version
abbrev IsExec : Version → DepRecord → Type 0
IsExec version (Exec o moved) = HasDepPayload (Exec o moved) × (version_of o ≡ version)
IsExec version (Own i) = ⊥

exec_kind : (version : Version) → IsKind dep_spelling (IsExec version) version 7 (tested_at (order_at version & shares_at) (λ x. nat_le x.1 x.0.asked)) (λ x. Exec x.0 x.1)
unfolding dep_spelling
exec_kind version =
    let executed = both_field (order_field version) shares_field in
    let spelled = spelled_field executed (λ x. after_kind (dep_spelling (Exec x.0 x.1))) (λ x. simp append_assoc) in
    record {
      fields = tested_field spelled _ _ (λ x f le. (((f.0.0, f.1), leb-true _ _ le), f.0.1)) (λ x p. (((p.0.0.0, p.1), p.0.0.1), le-leb _ _ p.0.1));
      spelled = λ x fits. ap (λ (v : Version). version_byte v ∷ 7 ∷ after_kind (dep_spelling (Exec x.0 x.1))) fits.1;
    }

payload : (version : Version) (r : DepRecord) → IsExec version r → HasDepPayload r
payload version (Exec o moved) is = is.0
payload version (Own i) is = absurd is

own_kind : IsKind dep_spelling HasDepPayload Two 8 instruction_at (λ i. Own i)
unfolding dep_spelling
own_kind = record { fields = told_field instruction_field (λ i f. (f, tt)) (λ i p. p.0); spelled = λ i fits. refl }

-- what is read as an instruction is spelled so
own_takes : (version : Version) (bytes : List ℕ) (r : DepRecord) → IsBytes bytes → own_of version bytes ≡ Ok r → Spells dep_spelling HasDepPayload version 8 bytes r
unfolding own_of
own_takes One bytes r fits e = absurd cc
own_takes Two bytes r fits e = whole_takes (of_kind own_kind) bytes r fits e

kind_takes : (version : Version) (kind : ℕ) (bytes : List ℕ) (r : DepRecord) → IsBytes bytes → dep_of_kind version kind bytes ≡ Ok r
    → Spells dep_spelling HasDepPayload version kind bytes r
unfolding exec_of
kind_takes version kind bytes r fits e = elim (chosen (kind == 7) (exec_of version bytes) (if kind == 8 then own_of version bytes else bad) (Ok r) e) [
  | inl f ↦
      let s = whole_takes (of_kind (exec_kind version)) bytes r fits f.1 in
      subst (λ (k : ℕ). Spells dep_spelling HasDepPayload version k bytes r) (sym (eqb-true kind 7 f.0)) (s.0, payload version r s.1)
  | inr f ↦ elim (chosen (kind == 8) (own_of version bytes) bad (Ok r) f.1) [
    | inl g ↦ subst (λ (k : ℕ). Spells dep_spelling HasDepPayload version k bytes r) (sym (eqb-true kind 8 g.0)) (own_takes version bytes r fits g.1)
    | inr g ↦ absurd cc
  ]
]

-- A record with its ranges is read again, where it is writable.
pub dep_read-spelling : (r : DepRecord) → HasDepRanges r → IsDepWritable r → read_dep_of (dep_spelling r) ≡ Ok r
unfolding read_dep_of dep_spelling exec_of own_of
dep_read-spelling (Own i) fits writable = whole_again own_kind i (fits, tt)
dep_read-spelling (Exec o moved) fits writable =
    payload_of dep_of_kind (version_of o) 7 (after_kind (dep_spelling (Exec o moved))) ∙ whole_again (exec_kind (version_of o)) (o, moved) ((fits, writable), refl)

-- what read answers
pub is_spelled : (bytes : List ℕ) (r : Result DepRecord BadRecord) → IsBytes bytes → r ≡ read_dep_of bytes → IfOk r (λ v. (dep_spelling v ≡ bytes) × IsDepWritable v)
unfolding read_dep_of
is_spelled bytes (Ok v) fits e = let t = payload_takes dep_spelling HasDepPayload dep_of_kind kind_takes bytes v fits (sym e) in (t.0, t.1.1)
is_spelled bytes (Err f) fits e = tt

-- how long a payload is
one_byte : (kind : MoveKind) → length (move_kind_bytes kind) ≡ 1
one_byte Cover = refl
one_byte Delivery = refl

one_sort : (sort : Sort) → length (sort_bytes sort) ≡ 1
one_sort Deposit = refl
one_sort Withdraw = refl

few_bytes : (version : Version) → order_size version ≤ 32
few_bytes One = lit≤ tt
few_bytes Two = lit≤ tt

pub dep_spelling_short : (r : DepRecord) → length (dep_spelling r) ≤ 1048576
unfolding dep_spelling
dep_spelling_short (Own i) =
    let rest = to_be_bytes w16 i.member ++ (to_be_bytes w64 i.number ++ (cusip_text i.issue ++ to_be_bytes w64 i.shares)) in
    omega (arith, length-append (sort_bytes i.sort) rest, one_sort i.sort)
dep_spelling_short (Exec o moved) =
    let last = to_be_bytes w64 moved in
    omega (
      arith,
      length-append (move_kind_bytes o.kind) (order_bytes o ++ last),
      length-append (order_bytes o) last,
      one_byte o.kind,
      length-order_bytes o,
      few_bytes (version_of o),
    )

-- No two records are spelled alike.
pub dep_spelling_injective : (a b : DepRecord) → HasDepPayload a → HasDepPayload b → dep_spelling a ≡ dep_spelling b → a ≡ b
dep_spelling_injective a b of_a of_b same = ok_is a b (sym (dep_read-spelling a of_a.0 of_a.1) ∙ ap read_dep_of same ∙ dep_read-spelling b of_b.0 of_b.1)

-- A payload that is no record is that of none.
pub dep_bad_is_none : (payload : List ℕ) (f : BadRecord) → Err f ≡ read_dep_of payload → (r : DepRecord) → HasDepPayload r → dep_spelling r ≡ payload → ⊥
dep_bad_is_none payload f none r of_r spelled =
    let both : Err f ≡ done r = none ∙ ap read_dep_of (sym spelled) ∙ dep_read-spelling r of_r.0 of_r.1 in cc

-- Each field of a payload: what is read is what was written, and the other way round.
use Rattle.std.proofs.Common.{◌≡◌, ℕ, ◌<◌, ◌≤◌, true, false, List, ◌∷◌, ◌++◌, length, Result, Ok, Err, refl, sym, ap, subst, ◌∙◌, arith}
use Rattle.std.specs.Prelude.{◌&&◌, nat_le, Option, None, Some}
use Rattle.std.specs.Int.{Width, w16, w64, to_be_bytes}
use Rattle.std.proofs.lemmas.Bool.Decides.{nat_tests}
use Rattle.cns_ids.specs.Cusip.{IsCusip, cusip_text, read_cusip}
use Rattle.cns_ids.specs.Day.{IsDayNumber}
use Rattle.cns_ids.specs.Member.{IsMember}
use Rattle.cns_ids.specs.Shares.{IsShares, is_shares, IsQuantity}
use Rattle.cns_ids.specs.declared.cusip.CusipFault.{CusipFault}
use Rattle.cns_movements.specs.Asked.{IsAsked}
use Rattle.cns_movements.specs.Number.{IsMoveNo}
use Rattle.cns_movements.specs.Fields.{cycle_bytes, day_bytes, order_bytes, order_size, read_cycle, read_day, read_order, read_reply, reply_bytes, version_of}
use Rattle.cns_movements.specs.Ranges.{IsOrderInRange, IsReplyInRange}
use Rattle.cns_movements.specs.declared.order.MoveKind.{MoveKind}
use Rattle.cns_movements.specs.declared.order.Order.{Order}
use Rattle.cns_movements.specs.declared.order.MoveKind.TheVariants.{Cover, Delivery}
use Rattle.cns_movements.specs.declared.version.Version.{Version}
use Rattle.cns_trades.specs.TradeId.{IsId, is_id_text}
use Rattle.cns_records.specs.Instruction.{IsInstructionInRange, instruction_at, instruction_bytes, sort_at, sort_bytes}
use Rattle.cns_records.specs.declared.instruction.Instruction.{Instruction}
use Rattle.cns_records.specs.declared.instruction.Sort.TheVariants.{Deposit, Withdraw}
use Rattle.cns_records.specs.Fields.{byte_at, text_at, number_at, tested, tested_at, member_at, quantity_at, shares_at, asked_at, move_no_at, id_bytes, id_at, day_at, cycle_at, issue_from, issue_at, flag_bytes, flag_at, move_kind_bytes, move_kind_at, value_at, order_at, reply_at}
use Rattle.std.specs.Option.{ok_or}
use Rattle.std.proofs.lemmas.List.{append_assoc}
use Rattle.cns_movements.proofs.BytesLemmas.{IsBytes}
use Rattle.cns_movements.proofs.FieldLemmas.{issue_read, length-order_bytes, length-reply_bytes, read_cycle-cycle_bytes, read_cycle-spelled, read_day-day_bytes, read_day-spelled, read_order-order_bytes, read_order-spelled, read_reply-reply_bytes, read_reply-spelled}
use Rattle.cns_records.proofs.FieldLemmas.{both_field, made_field, bind_ok, chain, done, tested_ok, ok_is, Takes, IsField, IsWide, step, tested_field, told_field, byte_field, number_field, text_takes, text_again, wide16, wide64, one_field}

-- ---- numbers

-- a number from 1 to the most
from_one_field : {w : Width} {limit : ℕ} → IsWide w limit → (most : ℕ) → most < limit → IsField (tested_at (number_at w) (λ n. nat_le 1 n && nat_le n most)) (to_be_bytes w) (λ n. (1 ≤ n) × (n ≤ most))
from_one_field wide most below = tested_field (number_field wide) (λ n. nat_le 1 n && nat_le n most) _
    (λ n fits passes. (grind (arith, nat_tests), grind (arith, nat_tests))) (λ n is. let from = is.0 in let to = is.1 in (omega arith, grind (arith, nat_tests)))

pub member_field : IsField member_at (to_be_bytes w16) IsMember
unfolding member_at
member_field = told_field (from_one_field wide16 9999 (omega arith)) (λ n is. record { from = is.0; to = is.1 }) (λ n is. (is.from, is.to))

pub quantity_field : IsField quantity_at (to_be_bytes w64) IsQuantity
unfolding quantity_at
quantity_field = told_field (from_one_field wide64 999999999999 (omega arith)) (λ n is. record { from = is.0; to = is.1 }) (λ n is. (is.from, is.to))

pub asked_field : IsField asked_at (to_be_bytes w64) IsAsked
unfolding asked_at
asked_field = told_field (from_one_field wide64 1000000000000000000 (omega arith)) (λ n is. record { from = is.0; to = is.1 }) (λ n is. (is.from, is.to))

pub move_no_field : IsField move_no_at (to_be_bytes w64) IsMoveNo
unfolding move_no_at
move_no_field = told_field (from_one_field wide64 1000000 (omega arith)) (λ n is. record { from = is.0; to = is.1 }) (λ n is. (is.from, is.to))

pub shares_field : IsField shares_at (to_be_bytes w64) IsShares
unfolding shares_at
shares_field = tested_field (number_field wide64) is_shares IsShares (λ n fits passes. grind (arith, nat_tests)) (λ n is. (omega arith, grind (arith, nat_tests)))

-- ---- one of two values

pub flag_field : IsField flag_at flag_bytes (λ _. Unit {0})
unfolding flag_at byte_at
flag_field = one_field 0 false 1 true flag_bytes (λ P p q x. elim x as (λ y. P y) [ false ↦ p | true ↦ q ]) refl refl (λ rest. refl) (λ rest. refl)

pub move_kind_field : IsField move_kind_at move_kind_bytes (λ _. Unit {0})
unfolding move_kind_at byte_at
move_kind_field = one_field 1 Cover 2 Delivery move_kind_bytes (λ P p q x. elim x as (λ y. P y) [ Cover ↦ p | Delivery ↦ q ]) refl refl (λ rest. refl) (λ rest. refl)

pub sort_field : IsField sort_at sort_bytes (λ _. Unit {0})
unfolding sort_at byte_at
sort_field = one_field 1 Deposit 2 Withdraw sort_bytes (λ P p q x. elim x as (λ y. P y) [ Deposit ↦ p | Withdraw ↦ q ]) refl refl (λ rest. refl) (λ rest. refl)

-- ---- ids

pub id_field : IsField id_at id_bytes IsId
unfolding id_at byte_at
id_field = record { takes = takes; again = again } where
  takes : (bytes : List ℕ) (x : List ℕ × List ℕ) → IsBytes bytes → id_at bytes ≡ Ok x → Takes bytes (id_bytes x.0) x.1 × IsId x.0
  takes bytes x fits e =
      let a = step byte_field bytes (λ len. tested_at (text_at len.0) is_id_text len.1) x fits e in
      let b = bind_ok (text_at a.value a.rest) (λ text. tested (is_id_text text.0) text) x a.then in
      let t = text_takes a.value a.rest b.0 a.rest_fits b.1 in
      let g = tested_ok (is_id_text b.0.0) b.0 x b.2 in
      let parts : bytes ≡ id_bytes b.0.0 ++ b.0.1 = a.parts ∙ ap (λ (r : List ℕ). a.value ∷ r) t.0.parts ∙ ap (λ (k : ℕ). k ∷ (b.0.0 ++ b.0.1)) (sym t.1) in
      subst (λ (p : List ℕ × List ℕ). Takes bytes (id_bytes p.0) p.1 × IsId p.0) g.1 (record { parts = parts; rest_fits = t.0.rest_fits }, g.0)

  again : (id rest : List ℕ) → IsId id → id_at (id_bytes id ++ rest) ≡ Ok (id, rest)
  again id rest is = rw (text_again (length id) id rest refl, is) refl

-- ---- issues

issue_from_ok : (r : Result ℕ CusipFault) (rest : List ℕ) (x : ℕ × List ℕ) → issue_from r rest ≡ Ok x → (n : ℕ) × (r ≡ Ok n) × ((n, rest) ≡ x)
issue_from_ok (Ok n) rest x e = (n, refl, ok_is (n, rest) x e)
issue_from_ok (Err f) rest x e = absurd cc

pub issue_field : IsField issue_at cusip_text IsCusip
unfolding issue_at
issue_field = record { takes = takes; again = again } where
  takes : (bytes : List ℕ) (x : ℕ × List ℕ) → IsBytes bytes → issue_at bytes ≡ Ok x → Takes bytes (cusip_text x.0) x.1 × IsCusip x.0
  takes bytes x fits e =
      let a = bind_ok (text_at 9 bytes) (λ text. issue_from (read_cusip text.0) text.1) x e in
      let t = text_takes 9 bytes a.0 fits a.1 in
      let r = issue_from_ok (read_cusip a.0.0) a.0.1 x a.2 in
      let c = issue_read a.0.0 r.0 t.1 t.2 r.1 in
      subst (λ (p : ℕ × List ℕ). Takes bytes (cusip_text p.0) p.1 × IsCusip p.0) r.2
      (record { parts = t.0.parts ∙ ap (λ (u : List ℕ). u ++ a.0.1) (sym c.back); rest_fits = t.0.rest_fits }, c.cusip)

  again : (n : ℕ) (rest : List ℕ) → IsCusip n → issue_at (cusip_text n ++ rest) ≡ Ok (n, rest)
  again n rest is = rw (text_again 9 (cusip_text n) rest refl, is.reads) refl

-- ---- values of so many bytes

some_read : {A : Type 0} (r : Option A) (x : A) → ok_or r (record {}) ≡ done x → r ≡ Some x
some_read None x e = absurd cc
some_read (Some y) x e = cc

-- a value of so many bytes
value_field : {A : Type 0} (size : ℕ) (read : List ℕ → Option A) (bytes_of : A → List ℕ) (Fits : A → Type 0) → ((x : A) → length (bytes_of x) ≡ size)
    → ((bytes : List ℕ) (x : A) → length bytes ≡ size → IsBytes bytes → read bytes ≡ Some x → (bytes_of x ≡ bytes) × Fits x) → ((x : A) → Fits x → read (bytes_of x) ≡ Some x)
    → IsField (value_at size read) bytes_of Fits
value_field {A} size read bytes_of Fits sized spelled back = record { takes = takes; again = again } where
  takes : (bytes : List ℕ) (x : A × List ℕ) → IsBytes bytes → value_at size read bytes ≡ Ok x → Takes bytes (bytes_of x.0) x.1 × Fits x.0
  takes bytes x fits e =
      let a = bind_ok (text_at size bytes) _ x e in
      let t = text_takes size bytes a.0 fits a.1 in
      let r = bind_ok (ok_or (read a.0.0) (record {})) _ x a.2 in
      let v = spelled a.0.0 r.0 t.1 t.2 (some_read (read a.0.0) r.0 r.1) in
      subst (λ (p : A × List ℕ). Takes bytes (bytes_of p.0) p.1 × Fits p.0) (ok_is (r.0, a.0.1) x r.2)
      (record { parts = t.0.parts ∙ ap (λ (u : List ℕ). u ++ a.0.1) (sym v.0); rest_fits = t.0.rest_fits }, v.1)

  again : (x : A) (rest : List ℕ) → Fits x → value_at size read (bytes_of x ++ rest) ≡ Ok (x, rest)
  again x rest fits = rw (text_again size (bytes_of x) rest (sized x), back x fits) refl

pub day_field : IsField day_at day_bytes IsDayNumber
unfolding day_at
day_field = value_field 4 read_day day_bytes IsDayNumber (λ n. refl) (λ bytes n size fits e. let is = read_day-spelled bytes n size fits e in (is.text, is.real)) read_day-day_bytes

pub cycle_field : IsField cycle_at cycle_bytes (λ id. IsDayNumber id.day)
unfolding cycle_at
cycle_field = value_field 5 read_cycle cycle_bytes (λ id. IsDayNumber id.day) (λ id. refl)
    (λ bytes id size fits e. let is = read_cycle-spelled bytes id size fits e in (is.text, is.real)) read_cycle-cycle_bytes

pub reply_field : IsField reply_at reply_bytes IsReplyInRange
unfolding reply_at
reply_field = value_field 16 read_reply reply_bytes IsReplyInRange length-reply_bytes
    (λ bytes r size fits e. let is = read_reply-spelled bytes r size fits e in (is.text, is.in_range)) read_reply-reply_bytes

-- ---- orders

-- an order's range, and its version
abbrev pub IsOrderOf : Version → Order → Type 0
IsOrderOf version o = IsOrderInRange o × (version_of o ≡ version)

-- the fields of an order of a version and a kind, but for the kind
order_takes : (version : Version) (kind : MoveKind) (bytes : List ℕ) (x : Order × List ℕ) → IsBytes bytes → value_at (order_size version) (read_order version kind) bytes ≡ Ok x
    → Takes bytes (order_bytes x.0) x.1 × IsOrderOf version x.0 × (x.0.kind ≡ kind)
order_takes version kind bytes x fits e =
    let a = bind_ok (text_at (order_size version) bytes) _ x e in
    let t = text_takes (order_size version) bytes a.0 fits a.1 in
    let r = bind_ok (ok_or (read_order version kind a.0.0) (record {})) _ x a.2 in
    let is = read_order-spelled version kind a.0.0 r.0 t.1 t.2 (some_read (read_order version kind a.0.0) r.0 r.1) in
    subst (λ (p : Order × List ℕ). Takes bytes (order_bytes p.0) p.1 × IsOrderOf version p.0 × (p.0.kind ≡ kind)) (ok_is (r.0, a.0.1) x r.2)
    (record { parts = t.0.parts ∙ ap (λ (u : List ℕ). u ++ a.0.1) (sym is.text); rest_fits = t.0.rest_fits }, (is.in_range, is.version_is), is.kind_is)

order_again : (o : Order) (rest : List ℕ) → IsOrderInRange o → value_at (order_size (version_of o)) (read_order (version_of o) o.kind) (order_bytes o ++ rest) ≡ Ok (o, rest)
order_again o rest fits = rw (text_again (order_size (version_of o)) (order_bytes o) rest (length-order_bytes o), read_order-order_bytes o fits) refl

pub order_field : (version : Version) → IsField (order_at version) (λ o. move_kind_bytes o.kind ++ order_bytes o) (IsOrderOf version)
unfolding order_at
order_field version = record { takes = takes; again = again } where
  takes : (bytes : List ℕ) (x : Order × List ℕ) → IsBytes bytes → order_at version bytes ≡ Ok x → Takes bytes (move_kind_bytes x.0.kind ++ order_bytes x.0) x.1 × IsOrderOf version x.0
  takes bytes x fits e =
      let kind = step move_kind_field bytes (λ k. value_at (order_size version) (read_order version k.0) k.1) x fits e in
      let o = order_takes version kind.value kind.rest x kind.rest_fits kind.then in
      let parts : bytes ≡ (move_kind_bytes kind.value ++ order_bytes x.0) ++ x.1 =
      chain (move_kind_bytes kind.value) kind.parts o.0.parts ∙ sym (append_assoc (move_kind_bytes kind.value) (order_bytes x.0) x.1) in
      (record { parts = subst (λ (k : MoveKind). bytes ≡ (move_kind_bytes k ++ order_bytes x.0) ++ x.1) (sym o.2) parts; rest_fits = o.0.rest_fits }, o.1)

  behind_kind : (v : Version) (o : Order) (rest : List ℕ) → version_of o ≡ v → IsOrderInRange o → value_at (order_size v) (read_order v o.kind) (order_bytes o ++ rest) ≡ Ok (o, rest)
  behind_kind v o rest is fits = subst (λ (w : Version). value_at (order_size w) (read_order w o.kind) (order_bytes o ++ rest) ≡ Ok (o, rest)) is (order_again o rest fits)

  again : (o : Order) (rest : List ℕ) → IsOrderOf version o → order_at version ((move_kind_bytes o.kind ++ order_bytes o) ++ rest) ≡ Ok (o, rest)
  again o rest fits =
      rw (append_assoc (move_kind_bytes o.kind) (order_bytes o) rest, move_kind_field.again o.kind (order_bytes o ++ rest) tt, behind_kind version o rest fits.1 fits.0) refl

-- ---- instructions

pub instruction_field : IsField instruction_at instruction_bytes IsInstructionInRange
unfolding instruction_at
instruction_field =
    let fields = both_field sort_field (both_field member_field (both_field move_no_field (both_field issue_field asked_field))) in
    made_field fields _ (λ (i : Instruction). (i.sort, (i.member, (i.number, (i.issue, i.shares))))) IsInstructionInRange
    (λ x f. (refl, record { member = f.1.0; number = f.1.1.0; issue = f.1.1.1.0; shares = f.1.1.1.1 }))
    (λ i is. (refl, (tt, (is.member, (is.number, (is.issue, is.shares))))))

-- The bytes of an order's fields, and of a reply's: what was written is read back, and what is read would be written as just the bytes that were read.
use Rattle.std.proofs.Common.{◌≡◌, ℕ, ◌+◌, ◌/◌, ◌%◌, ◌≤◌, Bool, true, false, cond, ◌&&◌, List, [], ◌∷◌, ◌++◌, length, take, drop, refl, sym, ap, subst, ◌∙◌, arith, Option, Some, None}
use Rattle.std.specs.Prelude.{IfSome, Result, Ok, Err, option_map, slice_index, ◌==◌}
use Rattle.std.specs.Int.{from_be_bytes, to_be_bytes, w16, w64}
use Rattle.std.proofs.lemmas.Bool.{and_parts}
use Rattle.std.proofs.lemmas.Bool.Decides.{nat_tests}
use Rattle.std.proofs.lemmas.Option.{cond_some, none-some, option_and_then_some, same_Some}
use Rattle.std.proofs.lemmas.List.{take-append-drop, length-take, length-drop, append_assoc, nil_from_length, take_all, take_more, take-take, drop-take}
use Rattle.std.proofs.lemmas.Nat.{be_bytes_2, be_bytes_8, from_be_bytes-to_be_bytes_2, from_be_bytes-to_be_bytes_8}
use Rattle.cns_ids.specs.Cusip.{cusip_text, read_cusip, with_digit, first_bad, number_of, check_digit, IsCusip}
use Rattle.cns_ids.specs.Day.{IsRealDay, IsDayNumber, is_real_day, number_of_day}
use Rattle.cns_ids.specs.DayNumber.{year-number, month-number, day-number}
use Rattle.cns_ids.specs.Member.{is_member}
use Rattle.cns_ids.specs.Shares.{is_shares}
use Rattle.cns_ids.specs.declared.cusip.CusipFault.{CusipFault}
use Rattle.cns_ids.specs.declared.cycle.CycleId.{CycleId}
use Rattle.cns_ids.specs.declared.cycle.CycleKind.{CycleKind}
use Rattle.cns_ids.specs.declared.cycle.CycleKind.TheVariants.{Night, Day}
use Rattle.cns_ids.proofs.CusipLemmas.{cusip_text-number_of, number_of-small}
use Rattle.cns_movements.specs.Asked.{is_asked}
use Rattle.cns_movements.specs.Fields.{version_byte, version_of_byte, cycle_byte, cycle_bytes, cycle_in, cycle_kind_of, cycle_part, cycle_size, cycle_with, day_bytes, day_with, order_bytes, order_size, order_with, read_cycle, read_day, read_order, read_reply, reply_bytes, reply_with, version_of, version_with}
use Rattle.cns_movements.specs.Number.{is_move_no}
use Rattle.cns_movements.specs.Ranges.{IsOrderInRange, IsReplyInRange}
use Rattle.cns_movements.specs.declared.order.MoveKind.{MoveKind}
use Rattle.cns_movements.specs.declared.order.Order.{Order}
use Rattle.cns_movements.specs.declared.order.Reply.{Reply}
use Rattle.cns_movements.specs.declared.version.Version.{Version}
use Rattle.cns_movements.specs.declared.version.Version.TheVariants.{One, Two}
use Rattle.cns_movements.proofs.BytesLemmas.{IsBytes, IsBytes-drop, IsBytes-take}

-- ---- a CUSIP

-- what was read is the number of its bytes
by_check : (b : Bool) (n m : ℕ) (fault : CusipFault) → cond b (Ok m) (Err fault) ≡ Ok n → n ≡ m
by_check true n m fault e = cc
by_check false n m fault e = absurd cc

by_place : (text : List ℕ) (place : Option ℕ) (n : ℕ) → with_digit text place ≡ Ok n → n ≡ number_of text
by_place text (Some place) n e = absurd cc
by_place text None n e = by_check (slice_index text 8 == 48 + check_digit text) n (number_of text) _ e

cusip_number : (text : List ℕ) (n : ℕ) → length text ≡ 9 → read_cusip text ≡ Ok n → n ≡ number_of text
unfolding read_cusip
cusip_number text n size e = by_place text (first_bad 1 text) n (rw size at e)

-- what is read as a CUSIP is one, and is written as the bytes that were read
pub record IsIssue (text : List ℕ) (n : ℕ) : Type 0 where
  pub cusip : IsCusip n
  pub back : cusip_text n ≡ text

pub issue_read : (text : List ℕ) (n : ℕ) → length text ≡ 9 → IsBytes text → read_cusip text ≡ Ok n → IsIssue text n
issue_read text n size bytes e =
    let is = cusip_number text n size e in
    let back : cusip_text n ≡ text = ap cusip_text is ∙ cusip_text-number_of text size bytes in
    record {
      cusip = record { small = rw is (number_of-small text size bytes); reads = ap read_cusip back ∙ e };
      back = back;
    }

-- ---- parts of bytes

take_then : (i k : ℕ) (xs : List ℕ) → take i xs ++ take k (drop i xs) ≡ take (i + k) xs
take_then i k xs =
    let parts = take-append-drop i (take (i + k) xs) in
    let front : take i (take (i + k) xs) ≡ take i xs = take-take i (i + k) xs (omega arith) in
    let back : drop i (take (i + k) xs) ≡ take k (drop i xs) = drop-take i k xs in
    rw (front, back) at parts

-- an order's fields stand side by side; its cycle has so many bytes
order_parts : (c : ℕ) (bytes : List ℕ)
    → take 8 bytes ++ take c (drop 8 bytes) ++ take 2 (drop (8 + c) bytes) ++ take 9 (drop 2 (drop (8 + c) bytes)) ++ drop 11 (drop (8 + c) bytes) ≡ bytes
order_parts c bytes =
    let rest = drop (8 + c) bytes in
    let member = take 2 rest in
    let issue = take 9 (drop 2 rest) in
    let asked = drop 11 rest in
    let front = take_then 8 c bytes in
    let behind : member ++ issue ++ asked ≡ rest = ap (λ (xs : List ℕ). xs ++ asked) (take_then 2 9 rest) ∙ take-append-drop 11 rest in
    ap (λ (xs : List ℕ). xs ++ member ++ issue ++ asked) front
    ∙ ap (λ (xs : List ℕ). xs ++ asked) (append_assoc (take (8 + c) bytes) member issue)
    ∙ append_assoc (take (8 + c) bytes) (member ++ issue) asked
    ∙ ap (λ (xs : List ℕ). take (8 + c) bytes ++ xs) behind
    ∙ take-append-drop (8 + c) bytes

reply_parts : (bytes : List ℕ) → length bytes ≡ 16 → take 8 bytes ++ take 8 (drop 8 bytes) ≡ bytes
reply_parts bytes size = take_then 8 8 bytes ∙ take_all 16 bytes (omega (arith, size))

-- bytes of a date, and of a cycle
day_parts : (bytes : List ℕ) → length bytes ≡ 4 → take 2 bytes ++ slice_index bytes 2 ∷ slice_index bytes 3 ∷ [] ≡ bytes
day_parts bytes size =
    sym (append_assoc (take 2 bytes) (slice_index bytes 2 ∷ []) (slice_index bytes 3 ∷ []))
    ∙ ap (λ (front : List ℕ). front ++ slice_index bytes 3 ∷ []) (sym (take_more bytes 2 0 (omega (arith, size))))
    ∙ sym (take_more bytes 3 0 (omega (arith, size))) ∙ take_all 4 bytes (omega (arith, size))

cycle_parts : (bytes : List ℕ) → length bytes ≡ 5 → take 4 bytes ++ slice_index bytes 4 ∷ [] ≡ bytes
cycle_parts bytes size = sym (take_more bytes 4 0 (omega (arith, size))) ∙ take_all 5 bytes (omega (arith, size))

-- a part within the bytes has its length, and bytes in it
part_length : (i k : ℕ) (bytes : List ℕ) → i + k ≤ length bytes → length (take k (drop i bytes)) ≡ k
part_length i k bytes within = omega (arith, length-take k (drop i bytes), length-drop i bytes)

part_bytes : (i k : ℕ) (bytes : List ℕ) → IsBytes bytes → IsBytes (take k (drop i bytes))
part_bytes i k bytes h = IsBytes-take k (drop i bytes) (IsBytes-drop i bytes h)

-- a number's bytes are those that it was read from
word_back : (i : ℕ) (bytes : List ℕ) → IsBytes bytes → i + 8 ≤ length bytes
    → to_be_bytes w64 (from_be_bytes w64 (take 8 (drop i bytes))) ≡ take 8 (drop i bytes)
word_back i bytes h within = be_bytes_8 (take 8 (drop i bytes)) _ (part_length i 8 bytes within) (part_bytes i 8 bytes h) refl

pair_back : (i : ℕ) (bytes : List ℕ) → IsBytes bytes → i + 2 ≤ length bytes
    → to_be_bytes w16 (from_be_bytes w16 (take 2 (drop i bytes))) ≡ take 2 (drop i bytes)
pair_back i bytes h within = be_bytes_2 (take 2 (drop i bytes)) _ (part_length i 2 bytes within) (part_bytes i 2 bytes h) refl

-- ---- dates

is_real_day-sound : (y m d : ℕ) → is_real_day y m d ≡ true → IsRealDay y m d
is_real_day-sound y m d h = record {
  year_from = grind (arith, nat_tests);
  year_to = grind (arith, nat_tests);
  month_from = grind (arith, nat_tests);
  month_to = grind (arith, nat_tests);
  day_from = grind (arith, nat_tests);
  day_to = grind (arith, nat_tests);
}

is_real_day-complete : (y m d : ℕ) → IsRealDay y m d → is_real_day y m d ≡ true
is_real_day-complete y m d h = grind (arith, nat_tests)

IsDayNumber-number : (y m d : ℕ) → IsRealDay y m d → IsDayNumber (number_of_day y m d)
IsDayNumber-number y m d h = rw (year-number y m d h, month-number y m d h, day-number y m d h) h

-- a date's bytes are read back as the date
day_fields : (n : ℕ) → read_day (day_bytes n) ≡ day_with (from_be_bytes w16 (to_be_bytes w16 (n / 10000))) (n / 100 % 100) (n % 100)
unfolding read_day
day_fields n = refl

pub read_day-day_bytes : (n : ℕ) → IsDayNumber n → read_day (day_bytes n) ≡ Some n
read_day-day_bytes n real =
    let year = from_be_bytes-to_be_bytes_2 (n / 10000) (omega (arith, real.year_to)) in
    let number : number_of_day (n / 10000) (n / 100 % 100) (n % 100) ≡ n = omega arith in
    day_fields n ∙ rw (year, is_real_day-complete (n / 10000) (n / 100 % 100) (n % 100) real, number) refl

-- a date that was read of bytes: they are its own
pub record IsDayIn (bytes : List ℕ) (n : ℕ) : Type 0 where
  pub text : day_bytes n ≡ bytes
  pub real : IsDayNumber n

pub read_day-spelled : (bytes : List ℕ) (n : ℕ) → length bytes ≡ 4 → IsBytes bytes → read_day bytes ≡ Some n → IsDayIn bytes n
unfolding read_day
read_day-spelled bytes n size h e =
    let y = from_be_bytes w16 (take 2 bytes) in
    let m = slice_index bytes 2 in
    let d = slice_index bytes 3 in
    let t = cond_some (is_real_day y m d) (number_of_day y m d) n e in
    let real = is_real_day-sound y m d t.0 in
    let text = ap (λ (front : List ℕ). front ++ m ∷ d ∷ []) (pair_back 0 bytes h (omega (arith, size))) ∙ day_parts bytes size in
    rw (← t.1) (record { text = rw (year-number y m d real, month-number y m d real, day-number y m d real) text; real = IsDayNumber-number y m d real })

-- the same of what reading answers
pub day_spelled : (bytes : List ℕ) (r : Option ℕ) → length bytes ≡ 4 → IsBytes bytes → r ≡ read_day bytes → IfSome r (λ n. day_bytes n ≡ bytes)
day_spelled bytes None size h e = tt
day_spelled bytes (Some n) size h e = (read_day-spelled bytes n size h (sym e)).text

-- ---- cycles

kind_back : (kind : CycleKind) → cycle_kind_of (cycle_byte kind) ≡ Some kind
kind_back Night = refl
kind_back Day = refl

kind_spelled : (byte : ℕ) (kind : CycleKind) → cycle_kind_of byte ≡ Some kind → cycle_byte kind ≡ byte
kind_spelled byte kind e = grind (arith, nat_tests)

-- a cycle's bytes are read back as the cycle
cycle_fields : (id : CycleId) → read_cycle (cycle_bytes id) ≡ cycle_with (read_day (day_bytes id.day)) (cycle_kind_of (cycle_byte id.kind))
unfolding read_cycle
cycle_fields id = refl

pub read_cycle-cycle_bytes : (id : CycleId) → IsDayNumber id.day → read_cycle (cycle_bytes id) ≡ Some id
read_cycle-cycle_bytes id real = cycle_fields id ∙ rw (read_day-day_bytes id.day real, kind_back id.kind) refl

-- a cycle that was read of bytes: they are its own
pub record IsCycleIn (bytes : List ℕ) (id : CycleId) : Type 0 where
  pub text : cycle_bytes id ≡ bytes
  pub real : IsDayNumber id.day

record HasParts (day : Option ℕ) (kind : Option CycleKind) (id : CycleId) : Type 0 where
  day_is : day ≡ Some id.day
  kind_is : kind ≡ Some id.kind

parts_read : (day : Option ℕ) (kind : Option CycleKind) (id : CycleId) → cycle_with day kind ≡ Some id → HasParts day kind id
parts_read (Some day) (Some kind) id e =
    let is = same_Some (record { day = day; kind = kind }) id e in
    record { day_is = ap (λ (x : CycleId). Some x.day) is; kind_is = ap (λ (x : CycleId). Some x.kind) is }
parts_read (Some day) None id e = absurd (none-some id e)
parts_read None kind id e = absurd (none-some id e)

pub read_cycle-spelled : (bytes : List ℕ) (id : CycleId) → length bytes ≡ 5 → IsBytes bytes → read_cycle bytes ≡ Some id → IsCycleIn bytes id
unfolding read_cycle
read_cycle-spelled bytes id size h e =
    let parts = parts_read (read_day (take 4 bytes)) (cycle_kind_of (slice_index bytes 4)) id e in
    let day = read_day-spelled (take 4 bytes) id.day (part_length 0 4 bytes (omega (arith, size))) (part_bytes 0 4 bytes h) parts.day_is in
    let kind = kind_spelled (slice_index bytes 4) id.kind parts.kind_is in
    let text =
    ap (λ (front : List ℕ). front ++ cycle_byte id.kind ∷ []) day.text
    ∙ ap (λ (byte : ℕ). take 4 bytes ++ byte ∷ []) kind
    ∙ cycle_parts bytes size in
    record { text = text; real = day.real }

-- ---- versions

-- a version that a byte stands for
pub version_back : (version : Version) → version_of_byte (version_byte version) ≡ Some version
version_back One = refl
version_back Two = refl

pub version_spelled : (byte : ℕ) (version : Version) → version_of_byte byte ≡ Some version → version_byte version ≡ byte
version_spelled byte version e = grind (arith, nat_tests)

-- ---- an order's cycle

cycle_back : (cycle : Option CycleId) → IfSome cycle (λ id. IsDayNumber id.day) → cycle_in (version_with cycle) (cycle_part cycle) ≡ Some cycle
cycle_back None real = refl
cycle_back (Some id) real = ap (option_map (λ (x : CycleId). Some x)) (read_cycle-cycle_bytes id real)

record IsPart (version : Version) (part : List ℕ) (cycle : Option CycleId) : Type 0 where
  text : cycle_part cycle ≡ part
  version_is : version_with cycle ≡ version
  real : IfSome cycle (λ id. IsDayNumber id.day)

cycle_read : (version : Version) (part : List ℕ) (cycle : Option CycleId) → length part ≡ cycle_size version → IsBytes part → cycle_in version part ≡ Some cycle → IsPart version part cycle
cycle_read One part cycle size h e =
    subst (IsPart One part) (same_Some None cycle e) (record { text = sym (nil_from_length part size); version_is = refl; real = tt })
cycle_read Two part cycle size h e = option_and_then_some (λ (id : CycleId). Some (Some id)) (read_cycle part) cycle e (λ id is same.
    let in_part = read_cycle-spelled part id size h is in
    subst (IsPart Two part) (same_Some (Some id) cycle same) (record { text = in_part.text; version_is = refl; real = in_part.real }))

-- ---- orders

-- fields in their ranges make an order
order_with_fields : (o : Order) → IsOrderInRange o → order_with o.kind o.number (Some o.cycle) o.member (Ok o.issue) o.asked ≡ Some o
order_with_fields o h =
    let number : is_move_no o.number ≡ true = grind (arith, nat_tests, h.number.from, h.number.to) in
    let member : is_member o.member ≡ true = grind (arith, nat_tests, h.member.from, h.member.to) in
    let asked : is_asked o.asked ≡ true = grind (arith, nat_tests, h.asked.from, h.asked.to) in
    rw (number, member, asked) refl

-- the fields that are read of an order's bytes
fields_of : (kind : MoveKind) (n : ℕ) (cycle : Option CycleId) (m i a : ℕ)
    → read_order (version_with cycle) kind (order_bytes (record { number = n; cycle = cycle; kind = kind; member = m; issue = i; asked = a }))
    ≡ order_with kind (from_be_bytes w64 (to_be_bytes w64 n)) (cycle_in (version_with cycle) (cycle_part cycle)) (from_be_bytes w16 (to_be_bytes w16 m)) (read_cusip (cusip_text i)) (from_be_bytes w64 (to_be_bytes w64 a))
unfolding read_order order_bytes
fields_of kind n None m i a = refl
fields_of kind n (Some id) m i a = refl

-- an order's bytes are read back as the order
pub read_order-order_bytes : (o : Order) → IsOrderInRange o → read_order (version_of o) o.kind (order_bytes o) ≡ Some o
read_order-order_bytes o h =
    let number = from_be_bytes-to_be_bytes_8 o.number (omega (arith, h.number.to)) in
    let member = from_be_bytes-to_be_bytes_2 o.member (omega (arith, h.member.to)) in
    let asked = from_be_bytes-to_be_bytes_8 o.asked (omega (arith, h.asked.to)) in
    fields_of o.kind o.number o.cycle o.member o.issue o.asked
    ∙ (λ k. order_with o.kind (number k) (cycle_back o.cycle h.cycle k) (member k) (h.issue.reads k) (asked k))
    ∙ order_with_fields o h

pub length-order_bytes : (o : Order) → length (order_bytes o) ≡ order_size (version_of o)
unfolding order_bytes
length-order_bytes o =
    elim o.cycle as (λ cycle. length (to_be_bytes w64 o.number ++ cycle_part cycle ++ to_be_bytes w16 o.member ++ cusip_text o.issue ++ to_be_bytes w64 o.asked) ≡ order_size (version_with cycle)) [
      | None ↦ refl
      | Some id ↦ refl
    ]

-- the fields that were read of an order
record HasFields (kind : MoveKind) (n : ℕ) (c : Option (Option CycleId)) (m : ℕ) (r : Result ℕ CusipFault) (a : ℕ) (o : Order) : Type 0 where
  cycle : Option CycleId
  cycle_is : c ≡ Some cycle
  issue : ℕ
  issue_is : r ≡ Ok issue
  whole : o ≡ record { number = n; cycle = cycle; kind = kind; member = m; issue = issue; asked = a }
  tests : (is_move_no n && (is_member m && is_asked a)) ≡ true

fields_read : (kind : MoveKind) (n : ℕ) (c : Option (Option CycleId)) (m : ℕ) (r : Result ℕ CusipFault) (a : ℕ) (o : Order) → order_with kind n c m r a ≡ Some o → HasFields kind n c m r a o
fields_read kind n None m r a o e = absurd cc
fields_read kind n (Some cycle) m (Err fault) a o e = absurd cc
fields_read kind n (Some cycle) m (Ok i) a o e =
    let t = cond_some (is_move_no n && (is_member m && is_asked a)) (record { number = n; cycle = cycle; kind = kind; member = m; issue = i; asked = a }) o e in
    record { cycle = cycle; cycle_is = refl; issue = i; issue_is = refl; whole = sym t.1; tests = t.0 }

ranges_of_order : (n m i a : ℕ) (cycle : Option CycleId) (kind : MoveKind) → IfSome cycle (λ id. IsDayNumber id.day) → IsCusip i → (is_move_no n && (is_member m && is_asked a)) ≡ true
    → IsOrderInRange (record { number = n; cycle = cycle; kind = kind; member = m; issue = i; asked = a })
ranges_of_order n m i a cycle kind real issue tests =
    let outer = and_parts (is_move_no n) (is_member m && is_asked a) tests in
    let inner = and_parts (is_member m) (is_asked a) outer.1 in
    let number = outer.0 in
    let member = inner.0 in
    let asked = inner.1 in
    record {
      number = record { from = grind (arith, nat_tests); to = grind (arith, nat_tests) };
      cycle = real;
      member = record { from = grind (arith, nat_tests); to = grind (arith, nat_tests) };
      issue = issue;
      asked = record { from = grind (arith, nat_tests); to = grind (arith, nat_tests) };
    }

-- an order that was read of bytes: they are its fields, and it is of the version and the kind that were asked for
pub record IsOrderIn (version : Version) (kind : MoveKind) (bytes : List ℕ) (o : Order) : Type 0 where
  pub text : order_bytes o ≡ bytes
  pub in_range : IsOrderInRange o
  pub version_is : version_of o ≡ version
  pub kind_is : o.kind ≡ kind

-- the same, whose cycle has so many bytes
spelled_by : (version : Version) (kind : MoveKind) (bytes : List ℕ) (o : Order) (c : ℕ) → cycle_size version ≡ c → length bytes ≡ 27 + c → IsBytes bytes
    → order_with kind (from_be_bytes w64 (take 8 bytes)) (cycle_in version (take c (drop 8 bytes))) (from_be_bytes w16 (take 2 (drop (8 + c) bytes)))
    (read_cusip (take 9 (drop 2 (drop (8 + c) bytes)))) (from_be_bytes w64 (drop 11 (drop (8 + c) bytes))) ≡ Some o → IsOrderIn version kind bytes o
unfolding order_bytes
spelled_by version kind bytes o c wide size h e =
    let n = from_be_bytes w64 (take 8 bytes) in
    let part = take c (drop 8 bytes) in
    let rest = drop (8 + c) bytes in
    let long : length rest ≡ 19 = omega (arith, size, length-drop (8 + c) bytes) in
    let are = IsBytes-drop (8 + c) bytes h in
    let m = from_be_bytes w16 (take 2 rest) in
    let r = read_cusip (take 9 (drop 2 rest)) in
    let last = drop 11 rest in
    let a = from_be_bytes w64 last in
    let f = fields_read kind n (cycle_in version part) m r a o e in
    let p = cycle_read version part f.cycle (part_length 8 c bytes (omega (arith, size)) ∙ sym wide) (part_bytes 8 c bytes h) f.cycle_is in
    let i = issue_read (take 9 (drop 2 rest)) f.issue (part_length 2 9 rest (omega (arith, long))) (part_bytes 2 9 rest are) f.issue_is in
    let number = word_back 0 bytes h (omega (arith, size)) in
    let member = pair_back 0 rest are (omega (arith, long)) in
    let asked = be_bytes_8 last _ (omega (arith, long, length-drop 11 rest)) (IsBytes-drop 11 rest are) refl in
    let text =
    (λ k. number k ++ p.text k ++ member k ++ i.back k ++ asked k)
    ∙ order_parts c bytes in
    rw f.whole (record { text = text; in_range = ranges_of_order n m f.issue a f.cycle kind p.real i.cusip f.tests; version_is = p.version_is; kind_is = refl })

pub read_order-spelled : (version : Version) (kind : MoveKind) (bytes : List ℕ) (o : Order) → length bytes ≡ order_size version → IsBytes bytes → read_order version kind bytes ≡ Some o
    → IsOrderIn version kind bytes o
unfolding read_order
read_order-spelled One kind bytes o size h e = spelled_by One kind bytes o 0 refl size h e
read_order-spelled Two kind bytes o size h e = spelled_by Two kind bytes o 5 refl size h e

-- the same of what reading answers
pub order_spelled : (version : Version) (kind : MoveKind) (bytes : List ℕ) (r : Option Order) → length bytes ≡ order_size version → IsBytes bytes → r ≡ read_order version kind bytes
    → IfSome r (IsOrderIn version kind bytes)
order_spelled version kind bytes None size h e = tt
order_spelled version kind bytes (Some o) size h e = read_order-spelled version kind bytes o size h (sym e)

-- ---- replies

reply_with_fields : (r : Reply) → IsReplyInRange r → reply_with r.number r.moved ≡ Some r
reply_with_fields r h =
    let number : is_move_no r.number ≡ true = grind (arith, nat_tests, h.number.from, h.number.to) in
    let moved : is_shares r.moved ≡ true = grind (arith, nat_tests, h.moved) in
    rw (number, moved) refl

parts_of : (r : Reply) → read_reply (reply_bytes r) ≡ reply_with (from_be_bytes w64 (to_be_bytes w64 r.number)) (from_be_bytes w64 (to_be_bytes w64 r.moved))
unfolding read_reply reply_bytes
parts_of r = refl

-- a reply's bytes are read back as the reply
pub read_reply-reply_bytes : (r : Reply) → IsReplyInRange r → read_reply (reply_bytes r) ≡ Some r
read_reply-reply_bytes r h =
    let number = from_be_bytes-to_be_bytes_8 r.number (omega (arith, h.number.to)) in
    let moved = from_be_bytes-to_be_bytes_8 r.moved (omega (arith, h.moved)) in
    parts_of r ∙ (λ k. reply_with (number k) (moved k)) ∙ reply_with_fields r h

pub length-reply_bytes : (r : Reply) → length (reply_bytes r) ≡ 16
unfolding reply_bytes
length-reply_bytes r = refl

ranges_of_reply : (n m : ℕ) → (is_move_no n && is_shares m) ≡ true → IsReplyInRange (record { number = n; moved = m })
ranges_of_reply n m tests =
    let both = and_parts (is_move_no n) (is_shares m) tests in
    let number = both.0 in
    let moved = both.1 in
    record { number = record { from = grind (arith, nat_tests); to = grind (arith, nat_tests) }; moved = grind (arith, nat_tests) }

-- a reply that was read of bytes: they are its fields
pub record IsReplyIn (bytes : List ℕ) (r : Reply) : Type 0 where
  pub text : reply_bytes r ≡ bytes
  pub in_range : IsReplyInRange r

pub read_reply-spelled : (bytes : List ℕ) (r : Reply) → length bytes ≡ 16 → IsBytes bytes → read_reply bytes ≡ Some r → IsReplyIn bytes r
unfolding read_reply reply_bytes
read_reply-spelled bytes r size h e =
    let n = from_be_bytes w64 (take 8 bytes) in
    let m = from_be_bytes w64 (take 8 (drop 8 bytes)) in
    let t = cond_some (is_move_no n && is_shares m) (record { number = n; moved = m }) r e in
    let number = word_back 0 bytes h (omega (arith, size)) in
    let moved = word_back 8 bytes h (omega (arith, size)) in
    let text = (λ k. number k ++ moved k) ∙ reply_parts bytes size in
    rw (← t.1) (record { text = text; in_range = ranges_of_reply n m t.0 })

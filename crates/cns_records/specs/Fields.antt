-- The fields of a payload, and how each is read from the front of the bytes (this project's own format).
use Rattle.std.specs.Prelude.{◌≡◌, ℕ, Bool, true, false, ◌==◌, nat_lt, List, [], ◌∷◌, length, take, drop, Option, Some, None, Result, Ok, Err, if◌then◌else◌}
use Rattle.std.specs.Option.{ok_or}
use Rattle.std.specs.Int.{Width, w16, w64, byte_len, from_be_bytes}
use Rattle.cns_ids.specs.Cusip.{read_cusip}
use Rattle.cns_ids.specs.Member.{is_member}
use Rattle.cns_ids.specs.Shares.{is_shares, is_quantity}
use Rattle.cns_ids.specs.Steps.{◌>>=◌}
use Rattle.cns_ids.specs.declared.cusip.CusipFault.{CusipFault}
use Rattle.cns_ids.specs.declared.cycle.CycleId.{CycleId}
use Rattle.cns_movements.specs.Asked.{is_asked}
use Rattle.cns_movements.specs.Number.{is_move_no}
use Rattle.cns_movements.specs.Fields.{order_size, read_cycle, read_day, read_order, read_reply, version_of_byte}
use Rattle.cns_movements.specs.declared.order.MoveKind.{MoveKind}
use Rattle.cns_movements.specs.declared.order.MoveKind.TheVariants.{Cover, Delivery}
use Rattle.cns_movements.specs.declared.order.Order.{Order}
use Rattle.cns_movements.specs.declared.order.Reply.{Reply}
use Rattle.cns_movements.specs.declared.version.Version.{Version}
use Rattle.cns_trades.specs.TradeId.{is_id_text}
use Rattle.cns_records.specs.declared.bad_record.BadRecord.{BadRecord}

-- no record is read
abbrev pub bad : {A : Type 0} → Result A BadRecord
bad = Err (record {})

-- how a value is read from the front of bytes: it and the bytes after it, or none
abbrev pub Reader : Type 0 → Type 0
Reader A = List ℕ → Result (A × List ℕ) BadRecord

-- what a function returned, and the bytes that it left, are what reading gives
abbrev pub Gives : {X : Type 0} → Result X BadRecord → List ℕ → Result (X × List ℕ) BadRecord → Type 0
Gives (Ok x) rest read = read ≡ Ok (x, rest)
Gives (Err e) rest read = read ≡ Err e

-- ---- readers that are made of others

-- one value after another
infixr 20 ◌&◌
abbrev pub ◌&◌ : {A B : Type 0} → Reader A → Reader B → Reader (A × B)
◌&◌ first second bytes = do
  x ← first bytes
  y ← second x.1
  Ok ((x.0, y.0), y.1)

-- what is made of a value
abbrev pub made : {A B : Type 0} → Reader A → (A → B) → Reader B
made read make bytes = do
  x ← read bytes
  Ok (make x.0, x.1)

-- a value that passes a test
abbrev pub tested : {A : Type 0} → Bool → A → Result A BadRecord
tested passes x = if passes then Ok x else bad

abbrev pub tested_at : {A : Type 0} → Reader A → (A → Bool) → Reader A
tested_at read test bytes = do
  x ← read bytes
  tested (test x.0) x

-- nothing but the value stands in the bytes
abbrev pub whole : {A : Type 0} → List ℕ → A → Result A BadRecord
whole rest x = tested (length rest == 0) x

abbrev pub whole_at : {A : Type 0} → Reader A → List ℕ → Result A BadRecord
whole_at read bytes = do
  x ← read bytes
  whole x.1 x.0

-- the record that a payload is: after its version and its kind, what the bytes of these are
abbrev pub payload_of_version : {R : Type 0} → (Version → ℕ → List ℕ → Result R BadRecord) → Option Version → ℕ → List ℕ → Result R BadRecord
payload_of_version of_kind (Some version) kind fields = of_kind version kind fields
payload_of_version of_kind None kind fields = bad

abbrev pub payload_as : {R : Type 0} → (Version → ℕ → List ℕ → Result R BadRecord) → List ℕ → Result R BadRecord
payload_as of_kind (version ∷ kind ∷ fields) = payload_of_version of_kind (version_of_byte version) kind fields
payload_as of_kind _ = bad

-- ---- the fields

-- one byte
unfoldable pub byte_at : Reader ℕ
byte_at [] = bad
byte_at (byte ∷ rest) = Ok (byte, rest)

-- so many bytes
unfoldable pub text_at : ℕ → Reader (List ℕ)
text_at len bytes = if nat_lt (length bytes) len then bad else Ok (take len bytes, drop len bytes)

-- a number of so many bytes
unfoldable pub number_at : Width → Reader ℕ
number_at w bytes = made (text_at (byte_len w)) (from_be_bytes w) bytes

unfoldable pub member_at : Reader ℕ
member_at bytes = tested_at (number_at w16) is_member bytes

unfoldable pub quantity_at : Reader ℕ
quantity_at bytes = tested_at (number_at w64) is_quantity bytes

unfoldable pub shares_at : Reader ℕ
shares_at bytes = tested_at (number_at w64) is_shares bytes

unfoldable pub asked_at : Reader ℕ
asked_at bytes = tested_at (number_at w64) is_asked bytes

unfoldable pub move_no_at : Reader ℕ
move_no_at bytes = tested_at (number_at w64) is_move_no bytes

-- a trade's id: its length, and its characters
abbrev pub id_bytes : List ℕ → List ℕ
id_bytes id = length id ∷ id

unfoldable pub id_at : Reader (List ℕ)
id_at bytes = do
  len ← byte_at bytes
  tested_at (text_at len.0) is_id_text len.1

-- an issue: the nine characters of its CUSIP
abbrev pub issue_from : Result ℕ CusipFault → List ℕ → Result (ℕ × List ℕ) BadRecord
issue_from (Ok issue) rest = Ok (issue, rest)
issue_from (Err fault) rest = bad

unfoldable pub issue_at : Reader ℕ
issue_at bytes = do
  text ← text_at 9 bytes
  issue_from (read_cusip text.0) text.1

-- one of two values, each by the byte that stands for it
abbrev pub one_of : {A : Type 0} → ℕ → A → ℕ → A → ℕ × List ℕ → Result (A × List ℕ) BadRecord
one_of m a n b byte = if byte.0 == m then Ok (a, byte.1) else if byte.0 == n then Ok (b, byte.1) else bad

abbrev pub one_of_at : {A : Type 0} → ℕ → A → ℕ → A → Reader A
one_of_at m a n b bytes = byte_at bytes >>= one_of m a n b

-- yes or no: 1 or 0
abbrev pub flag_bytes : Bool → List ℕ
flag_bytes false = 0 ∷ []
flag_bytes true = 1 ∷ []

unfoldable pub flag_at : Reader Bool
flag_at bytes = one_of_at 0 false 1 true bytes

-- an order's kind: 1 for a cover, 2 for a delivery
abbrev pub move_kind_bytes : MoveKind → List ℕ
move_kind_bytes Cover = 1 ∷ []
move_kind_bytes Delivery = 2 ∷ []

unfoldable pub move_kind_at : Reader MoveKind
move_kind_at bytes = one_of_at 1 Cover 2 Delivery bytes

-- the value that the next bytes are, so many of them
abbrev pub value_at : {A : Type 0} → ℕ → (List ℕ → Option A) → Reader A
value_at size read bytes = do
  text ← text_at size bytes
  value ← ok_or (read text.0) (record {})
  Ok (value, text.1)

-- a date, and a cycle
unfoldable pub day_at : Reader ℕ
day_at bytes = value_at 4 read_day bytes

unfoldable pub cycle_at : Reader CycleId
cycle_at bytes = value_at 5 read_cycle bytes

-- an order of this version: its kind, and its other fields
unfoldable pub order_at : Version → Reader Order
order_at version bytes = do
  kind ← move_kind_at bytes
  value_at (order_size version) (read_order version kind.0) kind.1

-- a reply: its fields
unfoldable pub reply_at : Reader Reply
reply_at bytes = value_at 16 read_reply bytes

-- The fields of an order, and of a reply, as bytes: what a frame and a journal's payload have in common (this project's own format).
-- Numbers stand with their highest byte first. An order's kind does not stand among them.
use Rattle.std.specs.Prelude.{ℕ, ◌+◌, ◌/◌, ◌%◌, ◌&&◌, ◌==◌, List, [], ◌∷◌, ◌++◌, drop, slice_index, slice_range, Option, Some, None, option_map, Result, Ok, Err, if◌then◌else◌}
use Rattle.std.specs.Int.{from_be_bytes, to_be_bytes, w16, w64}
use Rattle.cns_ids.specs.Cusip.{cusip_text, read_cusip}
use Rattle.cns_ids.specs.Day.{is_real_day, number_of_day}
use Rattle.cns_ids.specs.Member.{is_member}
use Rattle.cns_ids.specs.Shares.{is_shares}
use Rattle.cns_ids.specs.declared.cusip.CusipFault.{CusipFault}
use Rattle.cns_ids.specs.declared.cycle.CycleId.{CycleId}
use Rattle.cns_ids.specs.declared.cycle.CycleKind.{CycleKind}
use Rattle.cns_ids.specs.declared.cycle.CycleKind.TheVariants.{Night, Day}
use Rattle.cns_movements.specs.Asked.{is_asked}
use Rattle.cns_movements.specs.Number.{is_move_no}
use Rattle.cns_movements.specs.declared.order.MoveKind.{MoveKind}
use Rattle.cns_movements.specs.declared.order.Order.{Order}
use Rattle.cns_movements.specs.declared.order.Reply.{Reply}
use Rattle.cns_movements.specs.declared.version.Version.{Version}
use Rattle.cns_movements.specs.declared.version.Version.TheVariants.{One, Two}

-- ---- dates and cycles

-- a date, of the number yyyymmdd: the year in 2 bytes, the month and the day in 1 each
abbrev pub day_bytes : ℕ → List ℕ
day_bytes n = to_be_bytes w16 (n / 10000) ++ (n / 100 % 100) ∷ (n % 100) ∷ []

-- the date that has these parts: none where the calendar has it not, or its year is out of its range
abbrev pub day_with : ℕ → ℕ → ℕ → Option ℕ
day_with year month day = if is_real_day year month day then Some (number_of_day year month day) else None

-- the date that 4 bytes are
unfoldable pub read_day : List ℕ → Option ℕ
read_day bytes = day_with (from_be_bytes w16 (slice_range bytes 0 2)) (slice_index bytes 2) (slice_index bytes 3)

-- the byte that stands for a cycle's kind: 0 at night, 1 by day
abbrev pub cycle_byte : CycleKind → ℕ
cycle_byte Night = 0
cycle_byte Day = 1

abbrev pub cycle_kind_of : ℕ → Option CycleKind
cycle_kind_of byte = if byte == 0 then Some Night else if byte == 1 then Some Day else None

-- a cycle: its date, and its kind in 1 byte
abbrev pub cycle_bytes : CycleId → List ℕ
cycle_bytes id = day_bytes id.day ++ cycle_byte id.kind ∷ []

abbrev pub cycle_with : Option ℕ → Option CycleKind → Option CycleId
cycle_with (Some day) (Some kind) = Some (record { day = day; kind = kind })
cycle_with (Some day) None = None
cycle_with None kind = None

-- the cycle that 5 bytes are
unfoldable pub read_cycle : List ℕ → Option CycleId
read_cycle bytes = cycle_with (read_day (slice_range bytes 0 4)) (cycle_kind_of (slice_index bytes 4))

-- ---- versions

-- the byte that stands for a version, and the version of a byte
abbrev pub version_byte : Version → ℕ
version_byte One = 1
version_byte Two = 2

abbrev pub version_of_byte : ℕ → Option Version
version_of_byte byte = if byte == 1 then Some One else if byte == 2 then Some Two else None

-- the version that an order is written in: the second where it has a cycle, else the first
abbrev pub version_with : Option CycleId → Version
version_with None = One
version_with (Some id) = Two

abbrev pub version_of : Order → Version
version_of o = version_with o.cycle

-- how many bytes an order's cycle has in a version, and how many all fields of an order have
abbrev pub cycle_size : Version → ℕ
cycle_size One = 0
cycle_size Two = 5

abbrev pub order_size : Version → ℕ
order_size version = 27 + cycle_size version

-- ---- orders and replies

-- an order's cycle, where it has one: nothing stands for none
abbrev pub cycle_part : Option CycleId → List ℕ
cycle_part None = []
cycle_part (Some id) = cycle_bytes id

-- an order: its number in 8 bytes, its cycle, its member in 2, its CUSIP in 9 and the shares asked in 8
unfoldable pub order_bytes : Order → List ℕ
order_bytes o = to_be_bytes w64 o.number ++ cycle_part o.cycle ++ to_be_bytes w16 o.member ++ cusip_text o.issue ++ to_be_bytes w64 o.asked

-- a reply: its number in 8 bytes and the shares moved in 8
unfoldable pub reply_bytes : Reply → List ℕ
reply_bytes r = to_be_bytes w64 r.number ++ to_be_bytes w64 r.moved

-- the cycle of an order of a version, by the bytes that stand for it
abbrev pub cycle_in : Version → List ℕ → Option (Option CycleId)
cycle_in One bytes = Some None
cycle_in Two bytes = option_map (λ (id : CycleId). Some id) (read_cycle bytes)

-- the order that has these fields: none where one is out of its range
abbrev pub order_with : MoveKind → ℕ → Option (Option CycleId) → ℕ → Result ℕ CusipFault → ℕ → Option Order
order_with kind number (Some cycle) member (Ok issue) asked =
    if is_move_no number && (is_member member && is_asked asked)
    then Some (record { number = number; cycle = cycle; kind = kind; member = member; issue = issue; asked = asked })
    else None
order_with kind number (Some cycle) member (Err _) asked = None
order_with kind number None member issue asked = None

-- the reply that has these fields: none where one is out of its range
abbrev pub reply_with : ℕ → ℕ → Option Reply
reply_with number moved =
    if is_move_no number && is_shares moved
    then Some (record { number = number; moved = moved })
    else None

-- the order of this version and kind whose fields 27 bytes are, or 32: none where one is out of its range
unfoldable pub read_order : Version → MoveKind → List ℕ → Option Order
read_order version kind bytes =
    let behind = 8 + cycle_size version in
    let rest = drop behind bytes in
    order_with kind
    (from_be_bytes w64 (slice_range bytes 0 8))
    (cycle_in version (slice_range bytes 8 behind))
    (from_be_bytes w16 (slice_range rest 0 2))
    (read_cusip (slice_range rest 2 11))
    (from_be_bytes w64 (drop 11 rest))

-- the reply whose fields 16 bytes are: none where one is out of its range
unfoldable pub read_reply : List ℕ → Option Reply
read_reply bytes = reply_with (from_be_bytes w64 (slice_range bytes 0 8)) (from_be_bytes w64 (slice_range bytes 8 16))

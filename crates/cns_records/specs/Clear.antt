-- The records of the clearing node and the payload of each (this project's own format).
use Rattle.std.specs.Prelude.{◌≡◌, ◌≢◌, ℕ, ◌^◌, ◌<◌, ◌≤◌, nat_le, ◌==◌, Bool, not, List, ◌∷◌, ◌++◌, Result, Ok, Err, if◌then◌else◌}
use Rattle.std.specs.Int.{w16, w64, to_be_bytes}
use Rattle.cns_ids.specs.Cusip.{IsCusip, cusip_text}
use Rattle.cns_ids.specs.Day.{IsDayNumber}
use Rattle.cns_ids.specs.Member.{IsMember}
use Rattle.cns_ids.specs.Shares.{IsShares, IsQuantity}
use Rattle.cns_movements.specs.Fields.{cycle_bytes, day_bytes, reply_bytes}
use Rattle.cns_movements.specs.Ranges.{IsReplyInRange}
use Rattle.cns_movements.specs.declared.version.Version.{Version}
use Rattle.cns_movements.specs.declared.version.Version.TheVariants.{One, Two}
use Rattle.cns_trades.specs.TradeId.{IsId}
use Rattle.cns_trades.specs.declared.trade.Trade.{Trade}
use Rattle.cns_ids.specs.Steps.{◌>>=◌}
use Rattle.cns_records.specs.Fields.{bad, Reader, ◌&◌, made, tested_at, whole_at, payload_as, number_at, id_bytes, id_at, day_at, cycle_at, member_at, issue_at, quantity_at, shares_at, flag_bytes, flag_at, reply_at}
use Rattle.cns_records.specs.Drawn.{AreTicketsInRange, IsByStart, drawn_bytes, drawn_of}
use Rattle.cns_records.specs.declared.allocation.Allocation.{Allocation}
use Rattle.cns_records.specs.declared.bad_record.BadRecord.{BadRecord}
use Rattle.cns_records.specs.declared.clear_record.ClearRecord.{ClearRecord}
use Rattle.cns_records.specs.declared.clear_record.ClearRecord.TheVariants.{Accept, Exempt, Priority, Cycle, Allocate, Confirm}
use Rattle.cns_journal.specs.Replay.{AreFit}
use Rattle.cns_journal.specs.declared.record_log.RecordFault.{RecordFault}
use Rattle.cns_journal.specs.declared.record_log.RecordFault.TheVariants as fault

-- the one payload of a record: the version 1, the kind, and the fields
unfoldable pub spelling : ClearRecord → List ℕ
spelling (Accept t) =
    1 ∷ 1 ∷ (id_bytes t.id ++ (day_bytes t.settle ++ (to_be_bytes w16 t.buyer ++ (to_be_bytes w16 t.seller ++ (cusip_text t.issue ++ to_be_bytes w64 t.quantity)))))
spelling (Exempt member issue shares) = 1 ∷ 2 ∷ (to_be_bytes w16 member ++ (cusip_text issue ++ to_be_bytes w64 shares))
spelling (Priority member issue on) = 1 ∷ 3 ∷ (to_be_bytes w16 member ++ (cusip_text issue ++ flag_bytes on))
spelling (Cycle id) = 1 ∷ 4 ∷ cycle_bytes id
spelling (Allocate a) =
    1 ∷ 5 ∷ (cusip_text a.issue ++ (to_be_bytes w64 a.opened ++ (to_be_bytes w64 a.upto ++ (to_be_bytes w64 a.poured ++ (flag_bytes a.sealed ++ drawn_bytes a.drawn)))))
spelling (Confirm r) = 1 ∷ 6 ∷ reply_bytes r

-- what the types of a trade's fields promise
pub record IsTradeInRange (t : Trade) : Type 0 where
  pub id : IsId t.id
  pub settle : IsDayNumber t.settle
  pub buyer : IsMember t.buyer
  pub seller : IsMember t.seller
  pub issue : IsCusip t.issue
  pub quantity : IsQuantity t.quantity

-- what the types of an allocation's fields promise
pub record IsAllocationInRange (a : Allocation) : Type 0 where
  pub issue : IsCusip a.issue
  pub opened : a.opened < 2 ^ 64
  pub upto : a.upto < 2 ^ 64
  pub poured : IsShares a.poured
  pub drawn : AreTicketsInRange a.drawn

-- what the types of a record's fields promise
abbrev pub HasRanges : ClearRecord → Type 0
HasRanges (Accept t) = IsTradeInRange t
HasRanges (Exempt member issue shares) = IsMember member × IsCusip issue × IsShares shares
HasRanges (Priority member issue on) = IsMember member × IsCusip issue
HasRanges (Cycle id) = IsDayNumber id.day
HasRanges (Allocate a) = IsAllocationInRange a
HasRanges (Confirm r) = IsReplyInRange r

-- the records that are read again: of a trade, buyer and seller differ; an allocation's lot was opened not after its
-- last pour, and its tickets stand by start
abbrev pub IsWritable : ClearRecord → Type 0
IsWritable (Accept t) = t.buyer ≢ t.seller
IsWritable (Allocate a) = (a.opened ≤ a.upto) × IsByStart a.drawn
IsWritable _ = Unit {0}

-- the records that have a payload of their own
abbrev pub HasPayload : ClearRecord → Type 0
HasPayload r = HasRanges r × IsWritable r

-- the same of each record of a list
abbrev pub AreWritable : List ClearRecord → Type 0
AreWritable rs = AreFit HasPayload rs

-- a trade, which has two members
unfoldable pub trade_at : Reader Trade
trade_at bytes =
    tested_at
    (made (id_at & day_at & member_at & member_at & issue_at & quantity_at)
    (λ t. record { id = t.0; settle = t.1.0; buyer = t.1.1.0; seller = t.1.1.1.0; issue = t.1.1.1.1.0; quantity = t.1.1.1.1.1 }))
    (λ t. not (t.buyer == t.seller))
    bytes

-- the record of this kind, its fields one after another; an allocation's are below
unfoldable pub entry_at : ℕ → Reader ClearRecord
entry_at kind bytes =
    if kind == 1 then made trade_at (λ t. Accept t) bytes
    else if kind == 2 then made (member_at & issue_at & shares_at) (λ x. Exempt x.0 x.1.0 x.1.1) bytes
    else if kind == 3 then made (member_at & issue_at & flag_at) (λ x. Priority x.0 x.1.0 x.1.1) bytes
    else if kind == 4 then made cycle_at (λ id. Cycle id) bytes
    else if kind == 6 then made reply_at (λ r. Confirm r) bytes
    else bad

-- what an allocation has before its tickets; its lot is opened not after its last pour
unfoldable pub lot_at : Reader (ℕ × (ℕ × (ℕ × (ℕ × Bool))))
lot_at bytes = tested_at (issue_at & number_at w64 & number_at w64 & shares_at & flag_at) (λ lot. nat_le lot.1.0 lot.1.1.0) bytes

-- an allocation, whose tickets stand by start
unfoldable pub allocation_of : List ℕ → Result Allocation BadRecord
allocation_of bytes = do
  lot ← lot_at bytes
  drawn ← drawn_of lot.1
  Ok (record { issue = lot.0.0; opened = lot.0.1.0; upto = lot.0.1.1.0; poured = lot.0.1.1.1.0; sealed = lot.0.1.1.1.1; drawn = drawn })

abbrev pub allocate_of : List ℕ → Result ClearRecord BadRecord
allocate_of bytes = do
  allocation ← allocation_of bytes
  Ok (Allocate allocation)

-- the record of this version and kind that the bytes after them are: all are of the first version
abbrev pub record_of_kind : Version → ℕ → List ℕ → Result ClearRecord BadRecord
record_of_kind One kind fields = if kind == 5 then allocate_of fields else whole_at (entry_at kind) fields
record_of_kind Two kind fields = bad

-- the record that a payload is
unfoldable pub read_clear_of : List ℕ → Result ClearRecord BadRecord
read_clear_of payload = payload_as record_of_kind payload

-- what reading a payload answers: its record, or that it is none; memory may be short for an allocation only
abbrev pub ReadsAs : List ℕ → Result ClearRecord RecordFault → Type 0
ReadsAs payload (Ok entry) = read_clear_of payload ≡ Ok entry
ReadsAs payload (Err fault.BadRecord) = read_clear_of payload ≡ bad
ReadsAs payload (Err fault.OutOfMemory) = (a : Allocation) × (read_clear_of payload ≡ Ok (Allocate a))

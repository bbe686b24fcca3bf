-- The lots in the order of their numbers, which are counted from 1, and what each call of them comes to (this project's own rules). The first
-- refusal that applies is told.
use Rattle.std.specs.Prelude.{◌≡◌, ℕ, ◌-◌, not, false, List, map, Some, Result, Ok, Err, slice_set}
use Rattle.std.specs.Option.{ok_or}
use Rattle.cns_ids.specs.Steps.{◌>>=◌, ◌>>◌, need}
use Rattle.cns_wire.specs.Packet.{at_number}
use Rattle.cns_pool.specs.declared.ticket.Ticket.{Ticket}
use Rattle.cns_allocate.specs.Served.{turn_of}
use Rattle.cns_allocate.specs.declared.planned.Planned.{Planned}
use Rattle.cns_allocate.specs.declared.turns.Turn.TheVariants as turn
use Rattle.cns_records.specs.declared.clear_record.ClearRecord.{ClearRecord}
use Rattle.cns_records.specs.declared.refusal.Refusal.{Refusal}
use Rattle.cns_records.specs.declared.refusal.Refusal.TheVariants as refusal
use Rattle.cns_system.specs.Lot.{LotState, IsOfPlan, IsPlanOf, ticket_in, with_end, with_ticket}

-- the lots, and for how many more there is room
pub record LotsRoom : Type 0 where
  pub lots : List LotState
  pub room : ℕ

-- a lot is of a plan of its issue, as a first part of the clearing node's records has it; and each lot that has not ended is
pub record IsPlanned (c : List ClearRecord) (lot : LotState) : Type 0 where
  pub plan : List Planned
  pub of : IsPlanOf c lot.issue plan
  pub is : IsOfPlan plan lot

abbrev pub ArePlanned : List ClearRecord → List LotState → Type 0
ArePlanned c lots = (number : ℕ) (lot : LotState) → at_number lots number ≡ Some lot → lot.ended ≡ false → IsPlanned c lot

-- the lot of a number, which has not ended
abbrev pub going_lot : List LotState → ℕ → Result LotState Refusal
going_lot lots number = ok_or (at_number lots number) refusal.NoLot >>= λ lot. need (not lot.ended) refusal.StaleLot >> Ok lot

-- a lot was opened with the number and has not ended, and this holds of it; or it is refused so that there is none
abbrev pub HasLot : List LotState → ℕ → (LotState → Type 0) → Type 0
HasLot lots number P = (lot : LotState) × (going_lot lots number ≡ Ok lot) × P lot

abbrev pub HasNone : List LotState → ℕ → Refusal → Type 0
HasNone lots number refused = going_lot lots number ≡ Err refused

-- the lots by number once all have ended
abbrev pub all_ended : List LotState → List LotState
all_ended lots = map with_end lots

-- the lots with this one in the place of a number
abbrev pub with_lot : ℕ → LotState → List LotState → List LotState
with_lot number lot lots = slice_set lots (number - 1) lot

-- the lot of a number is changed
abbrev pub change_call : (LotState → LotState) → ℕ → List LotState → Result (Unit {0} × List LotState) Refusal
change_call change number lots = going_lot lots number >>= λ lot. Ok (tt, with_lot number (change lot) lots)

-- the ticket that a member draws next of a lot, which is of all the shares that are planned for it: its turn has come, and the lot is not sealed
abbrev pub turn_ticket : LotState → ℕ → Result Ticket Refusal
turn_ticket lot member = do
  asked ← elim (turn_of lot.turns member) [ turn.NotLong ↦ Err refusal.NotLong | turn.EarlierGroup ↦ Err refusal.EarlierGroup | turn.Next asked ↦ Ok asked ]
  need (not lot.sealed) refusal.Sealed
  Ok (ticket_in lot member asked)

-- the ticket that a member draws next of the lot of a number
abbrev pub ticket_call : ℕ → ℕ → List LotState → Result Ticket Refusal
ticket_call number member lots = going_lot lots number >>= λ lot. turn_ticket lot member

-- a member draws it, of a lot, and of the lot of a number
abbrev pub draw_call : ℕ → LotState → Result (Ticket × LotState) Refusal
draw_call member lot = turn_ticket lot member >>= λ ticket. Ok (ticket, with_ticket ticket lot)

abbrev pub reserve_call : ℕ → ℕ → List LotState → Result (Ticket × List LotState) Refusal
reserve_call number member lots = do
  lot ← going_lot lots number
  drawn ← draw_call member lot
  Ok (drawn.0, with_lot number drawn.1 lots)

-- The tickets of an allocation (this project's own format).
use Rattle.std.specs.Prelude.{◌≡◌, ℕ, zero, suc, ◌≤◌, nat_le, Bool, true, ◌&&◌, List, [], ◌∷◌, ◌++◌, length, Result, Ok, Err, IsOk}
use Rattle.std.specs.Int.{w16, w32, w64, to_be_bytes}
use Rattle.std.specs.List.{All, flat_map}
use Rattle.std.specs.List.Sorted.{IsNonDecreasingBy}
use Rattle.cns_ids.specs.Member.{IsMember}
use Rattle.cns_ids.specs.Shares.{IsShares}
use Rattle.cns_movements.specs.Asked.{IsAsked}
use Rattle.cns_ids.specs.Steps.{◌>>=◌}
use Rattle.cns_records.specs.Fields.{bad, Reader, ◌&◌, made, tested, tested_at, whole, number_at, member_at, shares_at, asked_at}
use Rattle.cns_records.specs.declared.bad_record.BadRecord.{BadRecord}
use Rattle.cns_records.specs.declared.drawn.Drawn.{Drawn}
use Rattle.cns_journal.specs.declared.record_log.RecordFault.{RecordFault}
use Rattle.cns_journal.specs.declared.record_log.RecordFault.TheVariants as fault

-- what the types of a ticket's fields promise
pub record IsTicketInRange (t : Drawn) : Type 0 where
  pub member : IsMember t.member
  pub start : IsShares t.start
  pub asked : IsAsked t.asked

-- the same of each ticket of a list, of which there are not too many
pub record AreTicketsInRange (tickets : List Drawn) : Type 0 where
  pub few : length tickets ≤ 9999
  pub each : All IsTicketInRange tickets

-- the tickets stand by their starts
abbrev pub IsByStart : List Drawn → Type 0
IsByStart tickets = IsNonDecreasingBy (λ (t : Drawn). t.start) tickets

-- whether no ticket starts below the one before it, and the first not below this number
abbrev pub starts_from : ℕ → List Drawn → Bool
starts_from low [] = true
starts_from low (t ∷ ts) = nat_le low t.start && starts_from t.start ts

-- whether the tickets stand by their starts
abbrev pub by_start : List Drawn → Bool
by_start tickets = starts_from 0 tickets

-- a ticket: its member, its start and how many shares it has
abbrev pub ticket_bytes : Drawn → List ℕ
ticket_bytes t = to_be_bytes w16 t.member ++ (to_be_bytes w64 t.start ++ to_be_bytes w64 t.asked)

unfoldable pub ticket_at : Reader Drawn
ticket_at bytes = made (member_at & shares_at & asked_at) (λ t. record { member = t.0; start = t.1.0; asked = t.1.1 }) bytes

-- so many tickets, one after the other
unfoldable pub tickets_at : ℕ → Reader (List Drawn)
tickets_at zero bytes = Ok ([], bytes)
tickets_at (suc n) bytes = do
  first ← ticket_at bytes
  others ← tickets_at n first.1
  Ok (first.0 ∷ others.0, others.1)

-- whether an allocation may have so many tickets
abbrev pub is_few : ℕ → Bool
is_few n = nat_le n 9999

-- tickets: how many they are, and each of them
abbrev pub drawn_bytes : List Drawn → List ℕ
drawn_bytes tickets = to_be_bytes w32 (length tickets) ++ flat_map ticket_bytes tickets

-- the tickets that bytes are, so many of them, by their starts
unfoldable pub tickets_read : ℕ → List ℕ → Result (List Drawn) BadRecord
tickets_read n bytes = do
  front ← tickets_at n bytes
  tickets ← whole front.1 front.0
  tested (by_start tickets) tickets

-- the tickets that bytes are: how many they are, and each of them, by their starts
unfoldable pub drawn_of : List ℕ → Result (List Drawn) BadRecord
drawn_of bytes = do
  count ← tested_at (number_at w32) is_few bytes
  tickets_read count.0 count.1

-- what a reader that takes memory returned is what reading gives; memory is short only where reading gives a value
abbrev pub AnswersIfRoom : {X : Type 0} → Result X RecordFault → Result X BadRecord → Type 0
AnswersIfRoom (Ok x) read = read ≡ Ok x
AnswersIfRoom (Err fault.BadRecord) read = read ≡ bad
AnswersIfRoom (Err fault.OutOfMemory) read = IsOk read

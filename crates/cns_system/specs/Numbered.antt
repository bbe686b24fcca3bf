-- A clearing node with its lots by number, and what each call of it comes to, by whether the node is down, its records, its open lots and the lots
-- by number (this project's own rules). The first refusal that applies is told.
use Rattle.std.specs.Prelude.{◌≡◌, ℕ, ◌+◌, ◌==◌, ◌||◌, nat_lt, Bool, false, List, [], ◌∷◌, ◌++◌, length, Some, None, Result, Ok, Err}
use Rattle.cns_ids.specs.Steps.{◌>>=◌, ◌>>◌, need}
use Rattle.cns_journal.specs.declared.record_log.CommitFault.{CommitFault}
use Rattle.cns_wire.specs.Packet.{at_number}
use Rattle.cns_pool.specs.Pool.{asked_sum}
use Rattle.cns_records.specs.Call.{Deed}
use Rattle.cns_records.specs.declared.clear_record.ClearRecord.{ClearRecord}
use Rattle.cns_records.specs.declared.refusal.Refusal.{Refusal}
use Rattle.cns_records.specs.declared.refusal.Refusal.TheVariants as refusal
use Rattle.cns_clearing.specs.Answers.{close_call, need_up, open_call, pour_call}
use Rattle.cns_clearing.specs.Lots.{new_lot}
use Rattle.cns_clearing.specs.Node.{ClearNode}
use Rattle.cns_clearing.specs.Node as node
use Rattle.cns_clearing.specs.Pools.{lent_of, lot_of}
use Rattle.cns_clearing.specs.declared.lot.Lot.{Lot}
use Rattle.cns_clearing.specs.declared.answer.Closed.{Closed}
use Rattle.cns_system.specs.Lot.{LotState, IsOfPlan, with_end}
use Rattle.cns_system.specs.Lot.{numbered_lot}
use Rattle.cns_system.specs.Lots.{going_lot, with_lot}
use Rattle.cns_system.specs.declared.entry.Look.{Look}
use Rattle.cns_system.specs.declared.numbered.Opened.{Opened}

-- the node, and the lots in the order of their numbers
pub record NumberedNode : Type 0 where
  pub clear : ClearNode
  pub lots : List LotState

-- the node has an open lot of its issue, of whose plan it is
pub record IsTied (open_lots : List Lot) (lot : LotState) : Type 0 where
  pub twin : Lot
  pub found : lot_of open_lots lot.issue ≡ Some twin
  pub is : IsOfPlan twin.plan lot

-- of each lot that has not ended the node has the open lot of its issue, and no two of them are of one issue
pub record AreTied (open_lots : List Lot) (lots : List LotState) : Type 0 where
  pub each : (number : ℕ) (lot : LotState) → at_number lots number ≡ Some lot → lot.ended ≡ false → IsTied open_lots lot
  pub once : (m n : ℕ) (k l : LotState) → at_number lots m ≡ Some k → at_number lots n ≡ Some l → k.ended ≡ false → l.ended ≡ false → k.issue ≡ l.issue → m ≡ n

-- a lot is opened, as the node opens one of the issue, where there is a number for it (a lot that has ended keeps its own, also over a restart): what is told of
-- it, the open lots, and the lots by number then
unfoldable pub numbered_open : ℕ → Bool → List ClearRecord → List Lot → List LotState → Result (Opened × (List Lot × List LotState)) Refusal
numbered_open issue down c open_lots lots = do
  opened ← open_call issue down c open_lots
  need (nat_lt (length lots) 1000000) refusal.LotsSpent
  Ok (record { number = length lots + 1; poured = (new_lot c issue).poured; plan = opened.0 }, (opened.1, lots ++ numbered_lot issue opened.0 ∷ []))

-- the node with these open lots, and these lots by number
abbrev pub having_lots : List Lot × List LotState → NumberedNode → NumberedNode
having_lots both n = record { clear = record n.clear { lots = both.0 }; lots = both.1 }

-- so a lot is opened of a node with its lots by number
abbrev pub opening_call : ℕ → NumberedNode → Result (Opened × NumberedNode) Refusal
opening_call issue n = numbered_open issue n.clear.log.down n.clear.log.records n.clear.lots n.lots >>= λ opened. Ok (opened.0, having_lots opened.1 n)

-- the lot of a number is poured into, as the node pours into its lot of the issue: what it gets, and the open lots then. (A seal
-- does not keep shares out.)
unfoldable pub numbered_pour : ℕ → Bool → List ClearRecord → List Lot → List LotState → Result (ℕ × List Lot) Refusal
numbered_pour number down c open_lots lots = going_lot lots number >>= λ lot. pour_call lot.issue down c open_lots

-- the lot of a number is closed, as the node closes its lot of the issue, with the tickets that were drawn of it, where it is sealed, or nobody waits
-- for a ticket of it
unfoldable pub numbered_close : ℕ → Bool → List ClearRecord → List Lot → List LotState → Result (Deed ClearRecord Closed) Refusal
numbered_close number down c open_lots lots = do
  lot ← going_lot lots number
  need_up down
  need (lot.sealed || (length lot.turns == 0)) refusal.Unserved
  close_call lot.issue lot.tickets lot.sealed down c open_lots

-- the lots once that of a number has ended
abbrev pub with_lot_ended : ℕ → List LotState → List LotState
with_lot_ended number lots = elim (at_number lots number) [ None ↦ lots | Some lot ↦ with_lot number (with_end lot) lots ]

-- what the commit of a record leaves of the node with its lots, by its answer; once it is acknowledged, this becomes of the lots by number
abbrev pub IsNumberedCommit : (List LotState → List LotState) → ClearRecord → Result (Unit {0}) CommitFault → NumberedNode → NumberedNode → Type 0
IsNumberedCommit ends r done old new =
    node.IsCommitted r done old.clear new.clear × (new.lots ≡ elim done [ Ok _ ↦ ends old.lots | Err _ ↦ old.lots ])

-- what a look at the lot of a number shows: the shares that are lent to it, those of its tickets, and its seal
abbrev pub look_call : ℕ → List Lot → List LotState → Result Look Refusal
look_call number open_lots lots =
    going_lot lots number >>= λ lot. Ok (record { poured = lent_of open_lots lot.issue; asked = asked_sum lot.tickets; sealed = lot.sealed })

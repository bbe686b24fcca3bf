-- The stock record: the movements that were executed, the members' own instructions that were carried out, and balances as sums over what
-- the records transfer. Records stand newest first (this project's own rules).
use Rattle.std.specs.Prelude.{◌≡◌, ℕ, ◌+◌, ◌-◌, ◌^◌, min, nat_lt, ◌&&◌, ◌==◌, List, Option, Some, None, find, filter_map, sum_by, if◌then◌else◌}
use Rattle.cns_journal.specs.Replay.{AreAllowed}
use Rattle.cns_movements.specs.declared.order.Order.{Order}
use Rattle.cns_records.specs.declared.dep_record.DepRecord.{DepRecord}
use Rattle.cns_records.specs.declared.dep_record.DepRecord.TheVariants.{Exec, Own}
use Rattle.cns_records.specs.declared.instruction.Instruction.{Instruction}
use Rattle.cns_records.specs.declared.instruction.Sort.TheVariants.{Deposit, Withdraw}
use Rattle.cns_trades.specs.declared.opening.Opening.{Opening}
use Rattle.cns_depository.specs.declared.account.Account.{Account}
use Rattle.cns_depository.specs.declared.account.Account.TheVariants.{Member}
use Rattle.cns_depository.specs.declared.account.Side.{Side}
use Rattle.cns_depository.specs.declared.account.Side.TheVariants.{Outside, At}
use Rattle.cns_depository.specs.declared.movement.Movement.{Movement}
use Rattle.cns_depository.specs.declared.movement.Transfer.{Transfer}
use Rattle.cns_depository.specs.declared.fault.OwnRefusal.{OwnRefusal}
use Rattle.cns_depository.specs.declared.fault.OwnRefusal.TheVariants.{IssueSum, TooFew}
use Rattle.cns_depository.specs.Account.{giver, own_giver, own_receiver, receiver, same_side}
use Rattle.cns_depository.specs.Openings.{issue_sum, opening_shares}

-- ---- the movements, and the instructions

-- the movement that a record executed, where it executed one
abbrev pub executed_in : DepRecord → Option Movement
executed_in (Exec o moved) = Some (record { order = o; moved = moved })
executed_in (Own i) = None

-- the record of a movement
abbrev pub execution : Movement → DepRecord
execution m = Exec m.order m.moved

-- the movements that were executed
abbrev pub executed_of : List DepRecord → List Movement
executed_of p = filter_map executed_in p

-- the movement of the order of this number
abbrev pub movement_of : List Movement → ℕ → Option Movement
movement_of movements n = find (λ (m : Movement). m.order.number == n) movements

-- the instruction that a record carried out, where it carried one out
abbrev pub instructed_in : DepRecord → Option Instruction
instructed_in (Exec o moved) = None
instructed_in (Own i) = Some i

-- the instructions that were carried out
abbrev pub instructed_of : List DepRecord → List Instruction
instructed_of p = filter_map instructed_in p

-- a member's instruction of this number
abbrev pub instruction_of : List Instruction → ℕ → ℕ → Option Instruction
instruction_of instructions member number = find (λ (i : Instruction). (i.member == member) && (i.number == number)) instructions

-- ---- the balances

-- what a record transfers: the shares of an issue, from the side that gives to the one that receives
abbrev pub transfer_of : DepRecord → Transfer
transfer_of (Exec o moved) = record { giver = At (giver o); receiver = At (receiver o); issue = o.issue; shares = moved }
transfer_of (Own i) = record { giver = own_giver i; receiver = own_receiver i; issue = i.issue; shares = i.shares }

-- the shares of an issue that a transfer brings to a side, and those that it takes from it
abbrev pub part_in : Side → ℕ → Transfer → ℕ
part_in s issue t = if same_side t.receiver s && (t.issue == issue) then t.shares else 0

abbrev pub part_out : Side → ℕ → Transfer → ℕ
part_out s issue t = if same_side t.giver s && (t.issue == issue) then t.shares else 0

-- the shares of an issue brought to a side, and taken from it
unfoldable pub brought_to : List DepRecord → Side → ℕ → ℕ
brought_to p s issue = sum_by (λ (e : DepRecord). part_in s issue (transfer_of e)) p

unfoldable pub taken_from : List DepRecord → Side → ℕ → ℕ
taken_from p s issue = sum_by (λ (e : DepRecord). part_out s issue (transfer_of e)) p

-- the same of an account: what was moved into it, and out of it
abbrev pub moved_in : List DepRecord → Account → ℕ → ℕ
moved_in p a issue = brought_to p (At a) issue

abbrev pub moved_out : List DepRecord → Account → ℕ → ℕ
moved_out p a issue = taken_from p (At a) issue

-- the balance of an account in an issue: its opening, and what was moved in, less what was moved out
unfoldable pub balance_of : List Opening → List DepRecord → Account → ℕ → ℕ
balance_of openings p a issue = (opening_shares openings a issue + moved_in p a issue) - moved_out p a issue

-- the shares of an issue that all accounts hold: its openings, and what came from outside, less what went there
unfoldable pub held_in : List Opening → List DepRecord → ℕ → ℕ
held_in openings p issue = (issue_sum openings issue + taken_from p Outside issue) - brought_to p Outside issue

-- ---- which records may stand

-- the movement of a new order: it moves what the giving account has, at most what is asked, and 0 where that has nothing. With it the order is done: what a cover
-- did not move, a cycle after its confirmation may ask for anew, as far as the member is then short of it
abbrev pub movement : List Opening → List DepRecord → Order → Movement
movement openings p o = record { order = o; moved = min o.asked (balance_of openings p (giver o) o.issue) }

-- a movement may be executed after these records: its number is new, and it moves what the giving account has, at most what is asked
pub record IsNextMovement (openings : List Opening) (p : List DepRecord) (m : Movement) : Type 0 where
  pub number_is_new : movement_of (executed_of p) m.order.number ≡ None
  pub moves : m ≡ movement openings p m.order

-- why a new instruction is refused, where it is: with a deposit the accounts would hold more than 10^18 shares of the issue, or a member
-- has fewer shares than it withdraws
abbrev pub own_refusal : List Opening → List DepRecord → Instruction → Option OwnRefusal
own_refusal openings p i = elim i.sort [
  | Deposit ↦ if nat_lt (10 ^ 18) (held_in openings p i.issue + i.shares) then Some IssueSum else None
  | Withdraw ↦ if nat_lt (balance_of openings p (Member i.member) i.issue) i.shares then Some TooFew else None
]

-- an instruction may be carried out after these records: its number is new for its member, and nothing refuses it
pub record IsNextInstruction (openings : List Opening) (p : List DepRecord) (i : Instruction) : Type 0 where
  pub number_is_new : instruction_of (instructed_of p) i.member i.number ≡ None
  pub may : own_refusal openings p i ≡ None

-- a record may stand after these
abbrev pub IsExecutable : List Opening → List DepRecord → DepRecord → Type 0
IsExecutable openings p (Exec o moved) = IsNextMovement openings p (record { order = o; moved = moved })
IsExecutable openings p (Own i) = IsNextInstruction openings p i

-- each record could stand after those before it
abbrev pub IsLawfulDepot : List Opening → List DepRecord → Type 0
IsLawfulDepot openings p = AreAllowed (IsExecutable openings) p

-- What each call of a depository comes to, by whether it is down, its openings and its records, and what it leaves (this project's own rules). The
-- first refusal that applies is told.
use Rattle.std.specs.Prelude.{Bool, not, List, Some, None, Result, Ok, Err}
use Rattle.cns_ids.specs.Steps.{◌>>◌, need}
use Rattle.cns_trades.specs.declared.opening.Opening.{Opening}
use Rattle.cns_movements.specs.Order.{agrees_with}
use Rattle.cns_movements.specs.declared.order.Order.{Order}
use Rattle.cns_movements.specs.declared.order.Reply.{Reply}
use Rattle.cns_journal.specs.declared.record_log.CommitFault.{CommitFault}
use Rattle.cns_journal.specs.declared.record_log.CommitFault.TheVariants as commit
use Rattle.cns_records.specs.Call.{CallLeaves, Deed, Commits, Tells}
use Rattle.cns_records.specs.Instruction.{same_instruction}
use Rattle.cns_records.specs.declared.dep_record.DepRecord.{DepRecord}
use Rattle.cns_records.specs.declared.dep_record.DepRecord.TheVariants as entry
use Rattle.cns_records.specs.declared.instruction.Instruction.{Instruction}
use Rattle.cns_records.specs.declared.refusal.Refusal.{Refusal}
use Rattle.cns_records.specs.declared.refusal.Refusal.TheVariants as refusal
use Rattle.cns_depository.specs.declared.fault.DepFault.{DepFault}
use Rattle.cns_depository.specs.declared.fault.DepFault.TheVariants.{Down, Conflict, OutOfMemory, Device}
use Rattle.cns_depository.specs.declared.fault.Answer.{Answer}
use Rattle.cns_depository.specs.declared.fault.Answer.TheVariants.{Done, Again}
use Rattle.cns_depository.specs.declared.fault.Own.{Own}
use Rattle.cns_depository.specs.declared.fault.Own.TheVariants as done
use Rattle.cns_depository.specs.declared.fault.OwnFault.{OwnFault}
use Rattle.cns_depository.specs.declared.fault.OwnFault.TheVariants as own
use Rattle.cns_depository.specs.declared.fault.OwnRefusal.{OwnRefusal}
use Rattle.cns_depository.specs.declared.fault.OwnRefusal.TheVariants.{IssueSum, TooFew}
use Rattle.cns_depository.specs.declared.movement.Movement.{Movement}
use Rattle.cns_depository.specs.Stock.{executed_of, execution, instructed_of, instruction_of, movement, movement_of, own_refusal}
use Rattle.cns_depository.specs.Node.{DepNode, IsCommitted}

-- ---- orders

-- why an order is refused whose record is not committed
abbrev pub dep_fault : CommitFault → DepFault
dep_fault commit.OutOfMemory = OutOfMemory
dep_fault commit.Device = Device

-- the same refusal, among those of both nodes
abbrev pub dep_refusal : DepFault → Refusal
dep_refusal Down = refusal.Down
dep_refusal Conflict = refusal.Conflict
dep_refusal OutOfMemory = refusal.OutOfMemory
dep_refusal Device = refusal.Device

-- the reply to an order that was executed: its number, and the shares that were moved
abbrev pub reply_to : Movement → Reply
reply_to m = record { number = m.order.number; moved = m.moved }

-- an order under whose number this movement was executed: where the two orders agree, the reply to that movement is told again
abbrev pub known_call : Order → Movement → Result (Deed DepRecord Answer) DepFault
known_call o known = need (agrees_with known.order o) Conflict >> Ok (Tells (Again (reply_to known)))

-- a movement is executed, and its reply told
abbrev pub executes : Movement → Deed DepRecord Answer
executes m = Commits (execution m) (Done (reply_to m))

-- an order is executed where its number is new, and nothing else adds a record
unfoldable pub take_order_call : Order → Bool → List Opening → List DepRecord → Result (Deed DepRecord Answer) DepFault
take_order_call o down openings p =
    need (not down) Down
    >> elim (movement_of (executed_of p) o.number) [ None ↦ Ok (executes (movement openings p o)) | Some known ↦ known_call o known ]

-- what an order leaves of a depository, by what it comes to
abbrev pub OrderLeaves : Result (Deed DepRecord Answer) DepFault → Result Answer DepFault → DepNode → DepNode → Type 0
OrderLeaves call result old new = CallLeaves dep_fault IsCommitted call result old new

-- ---- a member's own instructions

-- why an instruction is refused whose record is not committed
abbrev pub own_fault : CommitFault → OwnFault
own_fault commit.OutOfMemory = own.OutOfMemory
own_fault commit.Device = own.Device

-- a refusal of a new instruction among those of all instructions
abbrev pub own_refused : OwnRefusal → OwnFault
own_refused IssueSum = own.IssueSum
own_refused TooFew = own.TooFew

-- the same refusal, among those of both nodes
abbrev pub own_fault_refusal : OwnFault → Refusal
own_fault_refusal own.Down = refusal.Down
own_fault_refusal own.Conflict = refusal.Conflict
own_fault_refusal own.IssueSum = refusal.IssueSum
own_fault_refusal own.TooFew = refusal.TooFew
own_fault_refusal own.OutOfMemory = refusal.OutOfMemory
own_fault_refusal own.Device = refusal.Device

-- an instruction `i` whose number its member used before, for `held`: it is answered once more where both are the same
abbrev pub held_call : Instruction → Instruction → Result (Deed DepRecord Own) OwnFault
held_call i held = need (same_instruction held i) own.Conflict >> Ok (Tells done.Again)

-- an instruction is carried out where its number is new and nothing refuses it, and nothing else adds a record
unfoldable pub instruct_call : Instruction → Bool → List Opening → List DepRecord → Result (Deed DepRecord Own) OwnFault
instruct_call i down openings p =
    need (not down) own.Down
    >> elim (instruction_of (instructed_of p) i.member i.number) [
      | None ↦ elim (own_refusal openings p i) [ None ↦ Ok (Commits (entry.Own i) done.Done) | Some why ↦ Err (own_refused why) ]
      | Some held ↦ held_call i held
    ]

-- what an instruction leaves of a depository, by what it comes to
abbrev pub InstructLeaves : Result (Deed DepRecord Own) OwnFault → Result Own OwnFault → DepNode → DepNode → Type 0
InstructLeaves call result old new = CallLeaves own_fault IsCommitted call result old new

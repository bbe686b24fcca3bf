-- What happens at each event, as a function of what the surroundings decide (this project's own rules). Each event has one case, which tells
-- the refusals by the state in their order; want of memory and the device come after these, by the decision. A refusal leaves all as it was, but for
-- `Device` at a commit, which puts the node down and leaves its record undecided (a restart finds it in the journal, or does not), and for a refused restart, which
-- leaves the node down, also if it was up, with its records and its undecided one, and, of the clearing node, ends all lots.
use Rattle.std.specs.Prelude.{ℕ, ◌+◌, List, [], ◌∷◌, ◌++◌, length, Some, Result, Ok, Err}
use Rattle.std.specs.Option.{ok_or, option_flatten}
use Rattle.cns_journal.specs.RecordLog.{LogShown, restarted}
use Rattle.cns_journal.specs.declared.record_log.ReplayFault.{ReplayFault}
use Rattle.cns_journal.specs.declared.record_log.ReplayFault.TheVariants as replay
use Rattle.cns_journal.specs.declared.record_log.Restarted.{Restarted}
use Rattle.cns_ids.specs.Steps.{◌>>=◌, ◌>>◌}
use Rattle.cns_movements.specs.declared.order.Reply.{Reply}
use Rattle.cns_wire.specs.Packet.{at_number}
use Rattle.cns_records.specs.Call.{Deed}
use Rattle.cns_records.specs.Call as call
use Rattle.cns_records.specs.Refusals.{replay_refusal}
use Rattle.cns_records.specs.declared.clear_record.ClearRecord.{ClearRecord}
use Rattle.cns_records.specs.declared.clear_record.ClearRecord.TheVariants as entry
use Rattle.cns_records.specs.declared.dep_record.DepRecord.{DepRecord}
use Rattle.cns_records.specs.declared.instruction.Instruction.{Instruction}
use Rattle.cns_records.specs.declared.refusal.Refusal.{Refusal}
use Rattle.cns_records.specs.declared.refusal.Refusal.TheVariants as refusal
use Rattle.cns_clearing.specs.Answers.{cycle_call, order_call, reply_call, setting_call, trade_call}
use Rattle.cns_clearing.specs.Lots.{lots_restarted}
use Rattle.cns_clearing.specs.declared.answer.Closed.{Closed}
use Rattle.cns_clearing.specs.declared.answer.Cycled.{Cycled}
use Rattle.cns_clearing.specs.declared.answer.Taken.{Taken}
use Rattle.cns_clearing.specs.declared.answer.Taken.TheVariants as taken
use Rattle.cns_depository.specs.Answers.{dep_refusal, instruct_call, take_order_call, own_fault_refusal}
use Rattle.cns_depository.specs.declared.fault.Answer.{Answer}
use Rattle.cns_depository.specs.declared.fault.Answer.TheVariants as answer
use Rattle.cns_depository.specs.declared.fault.DepFault.{DepFault}
use Rattle.cns_depository.specs.declared.fault.Own.{Own}
use Rattle.cns_depository.specs.declared.fault.Own.TheVariants as own
use Rattle.cns_depository.specs.declared.fault.OwnFault.{OwnFault}
use Rattle.cns_system.specs.Lot.{LotState, with_seal}
use Rattle.cns_system.specs.Lots.{all_ended, change_call, reserve_call}
use Rattle.cns_system.specs.Numbered.{look_call, numbered_close, with_lot_ended, numbered_open, numbered_pour}
use Rattle.cns_system.specs.Shown.{Shown, clear_added, clear_failed, depot_added, depot_failed}
use Rattle.cns_system.specs.declared.event.Event.{Event}
use Rattle.cns_system.specs.declared.event.Event.TheVariants as event
use Rattle.cns_system.specs.declared.event.NodeName.{NodeName}
use Rattle.cns_system.specs.declared.event.NodeName.TheVariants as node
use Rattle.cns_system.specs.declared.outcome.Outcome.{Outcome}
use Rattle.cns_system.specs.declared.outcome.Outcome.TheVariants as outcomes

-- ---- by the state alone

-- what an event that is not refused by the state of the nodes and the link tells and leaves:
--   `Leaves`: so it is, whatever the decision: it takes no memory and has no record
--   `Grows`: so it is, unless memory is wanting; it has no record, so the device has no part in it
--   `Commits`: so it is once its record is acknowledged; where memory is wanting all stays; where the device fails, that is told and the second `Shown` is left
--   `Restarts`: the node reads its journal again
pub data Change : Type 0 where
  Leaves : Outcome → Shown → Change
  Grows : Outcome → Shown → Change
  Commits : Outcome → Shown → Shown → Change
  Restarts : NodeName → Change

-- the change that a call of the clearing node makes; `told` is the outcome by its answer, and `ends` says what becomes of the lots by number once a record is
-- acknowledged (what becomes of the node's open lots is said in `clear_added`)
abbrev pub clear_deed : {X : Type 0} → (X → Outcome) → (List LotState → List LotState) → Shown → Deed ClearRecord X → Change
clear_deed told ends w (call.Tells x) = Leaves (told x) w
clear_deed told ends w (call.Commits r x) = Commits (told x) (record (clear_added r w) { lots = ends w.lots }) (clear_failed r w)

abbrev pub by_clear : {X : Type 0} → (X → Outcome) → Shown → Result (Deed ClearRecord X) Refusal → Result Change Refusal
by_clear told w deed = deed >>= λ d. Ok (clear_deed told (λ lots. lots) w d)

-- what a reply comes to at the clearing node
abbrev pub taken_told : Reply → Taken → Outcome
taken_told r t = elim t [ taken.Done ↦ outcomes.Confirmed r | taken.Again ↦ outcomes.ConfirmedAgain r ]

-- an order at the depository: its reply is put on the link of replies as the next packet, once the order is executed, or again where it was executed before
abbrev pub with_reply_put : Reply → Shown → Shown
with_reply_put r w = record w { reply_packets = w.reply_packets ++ Some r ∷ [] }

abbrev pub answer_reply : Answer → Reply
answer_reply a = elim a [ answer.Done r ↦ r | answer.Again r ↦ r ]

abbrev pub answer_told : ℕ → Answer → Outcome
answer_told reply_packet (answer.Done r) = outcomes.Executed r reply_packet
answer_told reply_packet (answer.Again r) = outcomes.ExecutedAgain r reply_packet

abbrev pub order_deed : Shown → Deed DepRecord Answer → Change
order_deed w (call.Tells a) = Grows (answer_told (length w.reply_packets + 1) a) (with_reply_put (answer_reply a) w)
order_deed w (call.Commits e a) = Commits (answer_told (length w.reply_packets + 1) a) (with_reply_put (answer_reply a) (depot_added e w)) (depot_failed e w)

abbrev pub by_order : Shown → Result (Deed DepRecord Answer) DepFault → Result Change Refusal
by_order w deed = elim deed [ Err fault ↦ Err (dep_refusal fault) | Ok d ↦ Ok (order_deed w d) ]

-- a member's own instruction at the depository: what is told of it, and what it comes to
abbrev pub own_told : Instruction → Own → Outcome
own_told i o = elim o [ own.Done ↦ outcomes.Instructed i | own.Again ↦ outcomes.InstructedAgain i ]

abbrev pub own_deed : Instruction → Shown → Deed DepRecord Own → Change
own_deed i w (call.Tells o) = Leaves (own_told i o) w
own_deed i w (call.Commits e o) = Commits (own_told i o) (depot_added e w) (depot_failed e w)

abbrev pub by_own : Instruction → Shown → Result (Deed DepRecord Own) OwnFault → Result Change Refusal
by_own i w deed = elim deed [ Err fault ↦ Err (own_fault_refusal fault) | Ok d ↦ Ok (own_deed i w d) ]

-- what an event comes to by the state alone, or its first refusal. The refusals of each event, in their order (`Trade` carries the verdict; a trade that was accepted
-- before is refused too, while an order, a reply or an instruction that comes again is answered once more):
--   Trade           Down, Trade
--   Exempt          Down
--   Priority        Down
--   Cycle           Down, CycleOrder, LotsOpen, NumbersSpent
--   LotOpen         Down, LotAlready, LotsSpent
--   LotPour         NoLot, StaleLot, Down
--   Reserve         NoLot, StaleLot, NotLong (also of a member that has its ticket), EarlierGroup, Sealed
--   LookPoured, LookAsked, Seal   NoLot, StaleLot
--   LotClose        NoLot, StaleLot, Down, Unserved, NumbersSpent
--   Send            Down, UnknownMove
--   OrderIn         NoPacket, Down, Conflict
--   ReplyIn         NoPacket, Down, UnknownMove, Conflict, TooMuch
--   Own             Down, Conflict, IssueSum (a deposit) or TooFew (a withdrawal)
--   Restart         none (by the decision: OutOfMemory, BadJournal, Device)
-- The node's own `NoLot`, of an issue that has no open lot, comes at no pour and no close by number: a lot that has not ended is one of the node's (`AreTied`,
-- which each event keeps). A ticket, a seal and a look do not ask whether the clearing node is up: its lots stand as they are until a restart ends them. A lot
-- that no close ends, as where the numbers of orders are spent, stands until that restart too, and no cycle runs beside it. Besides, `OutOfMemory`, `Device` and
-- `BadJournal` come by the decision, not by the state; and two refusals come of no event here: `LotBusy`, of a lot that workers are serving (`FloorStep`), and
-- `BadTickets`, of tickets that are handed in where one is not what its member would draw next, or where they do not serve the plan.
unfoldable pub judged : Event → Shown → Result Change Refusal
judged (event.Trade t) w = by_clear (λ _. outcomes.Accepted) w (trade_call t w.clear.down w.clear.records)
judged (event.Exempt member issue shares) w = by_clear (λ _. outcomes.Done) w (setting_call (entry.Exempt member issue shares) w.clear.down)
judged (event.Priority member issue on) w = by_clear (λ _. outcomes.Done) w (setting_call (entry.Priority member issue on) w.clear.down)
judged (event.Cycle id) w = by_clear (λ (done : Cycled). outcomes.Cycled done) w (cycle_call id w.clear.down w.clear.records w.open_lots)
judged (event.LotOpen issue) w =
    numbered_open issue w.clear.down w.clear.records w.open_lots w.lots
    >>= λ opened. Ok (Grows (outcomes.LotOpened opened.0) (record w { open_lots = opened.1.0; lots = opened.1.1 }))
judged (event.LotPour number) w =
    numbered_pour number w.clear.down w.clear.records w.open_lots w.lots >>= λ poured. Ok (Leaves (outcomes.Poured poured.0) (record w { open_lots = poured.1 }))
judged (event.Reserve number member) w = reserve_call number member w.lots >>= λ drawn. Ok (Leaves (outcomes.Drawn drawn.0) (record w { lots = drawn.1 }))
judged (event.LookPoured number) w = look_call number w.open_lots w.lots >>= λ look. Ok (Leaves (outcomes.LookedPoured look.poured) w)
judged (event.LookAsked number) w = look_call number w.open_lots w.lots >>= λ look. Ok (Leaves (outcomes.LookedAsked look.asked look.sealed) w)
judged (event.Seal number) w = change_call with_seal number w.lots >>= λ sealed. Ok (Leaves outcomes.Done (record w { lots = sealed.1 }))
judged (event.LotClose number) w =
    numbered_close number w.clear.down w.clear.records w.open_lots w.lots >>= λ d. Ok (clear_deed (λ (done : Closed). outcomes.Closed done) (with_lot_ended number) w d)
judged (event.Send number) w = do
  o ← order_call number w.clear.down w.clear.records
  Ok (Grows (outcomes.Sent (length w.order_packets + 1)) (record w { order_packets = w.order_packets ++ Some o ∷ [] }))
judged (event.OrderIn packet) w = do
  o ← ok_or (option_flatten (at_number w.order_packets packet)) refusal.NoPacket
  by_order w (take_order_call o w.depot.down w.openings w.depot.records)
judged (event.ReplyIn packet) w = do
  r ← ok_or (option_flatten (at_number w.reply_packets packet)) refusal.NoPacket
  by_clear (taken_told r) w (reply_call r w.clear.down w.clear.records)
judged (event.Own i) w = by_own i w (instruct_call i w.depot.down w.openings w.depot.records)
judged (event.Restart name) w = Ok (Restarts name)

-- what the answer of a node's call comes to
abbrev pub outcome_of : {X : Type 0} → (X → Outcome) → Result X Refusal → Outcome
outcome_of told (Ok x) = told x
outcome_of told (Err r) = outcomes.Refused r

-- ---- by what the surroundings decide

-- all that the surroundings decide at an event. Here each may be given at any event; which may come, by what is known of the keeper and whether it is honest, is
-- said in `decision_at`:
--   `Goes`: nothing is in the way; at a restart the journal gives the records as they were, without the undecided one
--   `NoMemory`: there is no memory, or the journal is full: what grows, a commit and a restart are refused; what takes none goes on all the same
--   `DeviceFails`: the device fails, at a commit or a restart; what has neither goes on all the same
--   `ClearReads`, `DepotReads`: at a restart of that node its journal gives just these records, whichever they are, the newest first (also where the undecided one
--   comes back); at a restart of the other node, and at any other event, as `Goes`
--   `FindsBad`: at a restart the journal's payload in this place is the first that is bad; at any other event as `Goes`
pub data Decision : Type 0 where
  Goes : Decision
  NoMemory : Decision
  DeviceFails : Decision
  ClearReads : List ClearRecord → Decision
  DepotReads : List DepRecord → Decision
  FindsBad : ℕ → Decision

-- what reading a journal again comes to by the decision, where these are the records that it would give
abbrev pub reading_by : {R : Type 0} → Decision → List R → Result (List R) ReplayFault
reading_by NoMemory records = Err replay.OutOfMemory
reading_by DeviceFails records = Err replay.Device
reading_by (FindsBad place) records = Err (replay.BadJournal place)
reading_by _ records = Ok records

-- what is told of the answer of a restarted log
abbrev pub restart_told : Result Restarted ReplayFault → Outcome
restart_told (Ok done) = outcomes.Restarted done.records done.kept
restart_told (Err fault) = outcomes.Refused (replay_refusal fault)

-- a restart of a node with this log, whose journal would give these records; `left` is all that is left, by the log
abbrev pub restart_by : {R : Type 0} → Decision → LogShown R → List R → (LogShown R → Shown) → Outcome × Shown
restart_by d log records left = let done = restarted (reading_by d records) log in (restart_told done.0, left done.1)

-- a restart of the clearing node ends all lots, also where it is refused; what the other node's journal would give decides nothing
abbrev pub node_restarted : Decision → NodeName → Shown → Outcome × Shown
node_restarted d node.Clear w =
    restart_by d w.clear (elim d [ ClearReads c ↦ c | _ ↦ w.clear.records ]) (λ log. record w { clear = log; open_lots = lots_restarted w.open_lots; lots = all_ended w.lots })
node_restarted d node.Depot w = restart_by d w.depot (elim d [ DepotReads p ↦ p | _ ↦ w.depot.records ]) (λ log. record w { depot = log })

-- what becomes of a change
abbrev pub changed : Decision → Shown → Change → Outcome × Shown
changed d w (Leaves outcome left) = (outcome, left)
changed d w (Grows outcome left) = elim d [ NoMemory ↦ (outcomes.Refused refusal.OutOfMemory, w) | _ ↦ (outcome, left) ]
changed d w (Commits outcome left failed) =
    elim d [ NoMemory ↦ (outcomes.Refused refusal.OutOfMemory, w) | DeviceFails ↦ (outcomes.Refused refusal.Device, failed) | _ ↦ (outcome, left) ]
changed d w (Restarts name) = node_restarted d name w

-- what happens at an event: one that is refused by its judgement leaves all as it was
abbrev pub decided : Decision → Shown → Result Change Refusal → Outcome × Shown
decided d w judgement = elim judgement [ Ok change ↦ changed d w change | Err r ↦ (outcomes.Refused r, w) ]

unfoldable pub happens : Decision → Event → Shown → Outcome × Shown
happens d e w = decided d w (judged e w)

-- The names of commands and refusals, as lines show them (this project's own format).
use Rattle.std.specs.Prelude.{ℕ, List, ◌++◌, codes}
use Rattle.cns_records.specs.Instruction.{sort_text}
use Rattle.cns_records.specs.declared.refusal.Refusal.{Refusal}
use Rattle.cns_records.specs.declared.refusal.Refusal.TheVariants as refusal
use Rattle.cns_system.specs.declared.event.Event.{Event}
use Rattle.cns_system.specs.declared.event.Event.TheVariants as event
use Rattle.cns_system.specs.declared.event.NodeName.{NodeName}
use Rattle.cns_system.specs.declared.event.NodeName.TheVariants as node
use Rattle.cns_trades.specs.declared.list.Verdict.TheVariants as verdict

-- the word that the line of a refused, accepted or done event begins with; that of a trade has the trade's name behind it
abbrev pub event_word : Event → List ℕ
event_word (event.Trade t) = codes "trade " ++ t.id
event_word (event.Exempt member issue shares) = codes "exempt"
event_word (event.Priority member issue on) = codes "priority"
event_word (event.Cycle id) = codes "cycle"
event_word (event.LotOpen issue) = codes "lot"
event_word (event.LotPour lot) = codes "pour"
event_word (event.Reserve lot member) = codes "reserve"
event_word (event.LookPoured lot) = codes "look"
event_word (event.LookAsked lot) = codes "look"
event_word (event.Seal lot) = codes "seal"
event_word (event.LotClose lot) = codes "close"
event_word (event.Send number) = codes "send"
event_word (event.OrderIn packet) = codes "order"
event_word (event.ReplyIn packet) = codes "reply"
event_word (event.Own i) = sort_text i.sort
event_word (event.Restart node) = codes "restart"

-- a trade is refused by the name of its verdict
abbrev pub refusal_text : Refusal → List ℕ
refusal_text (refusal.Trade verdict.New) = codes "New"
refusal_text (refusal.Trade verdict.Same) = codes "Same"
refusal_text (refusal.Trade verdict.Conflict) = codes "Conflict"
refusal_text (refusal.Trade verdict.SameMember) = codes "SameMember"
refusal_text (refusal.Trade verdict.Full) = codes "Full"
refusal_text refusal.Down = codes "Down"
refusal_text refusal.Device = codes "Device"
refusal_text refusal.CycleOrder = codes "CycleOrder"
refusal_text refusal.NumbersSpent = codes "NumbersSpent"
refusal_text refusal.UnknownMove = codes "UnknownMove"
refusal_text refusal.NoPacket = codes "NoPacket"
refusal_text refusal.Conflict = codes "Conflict"
refusal_text refusal.TooMuch = codes "TooMuch"
refusal_text refusal.IssueSum = codes "IssueSum"
refusal_text refusal.TooFew = codes "TooFew"
refusal_text refusal.LotsOpen = codes "LotsOpen"
refusal_text refusal.LotAlready = codes "LotAlready"
refusal_text refusal.LotsSpent = codes "LotsSpent"
refusal_text refusal.NoLot = codes "NoLot"
refusal_text refusal.StaleLot = codes "StaleLot"
refusal_text refusal.LotBusy = codes "LotBusy"
refusal_text refusal.NotLong = codes "NotLong"
refusal_text refusal.EarlierGroup = codes "EarlierGroup"
refusal_text refusal.Sealed = codes "Sealed"
refusal_text refusal.Unserved = codes "Unserved"
refusal_text refusal.BadTickets = codes "BadTickets"
refusal_text (refusal.BadJournal place) = codes "BadJournal"
refusal_text refusal.OutOfMemory = codes "OutOfMemory"

abbrev pub node_text : NodeName → List ℕ
node_text = elim [ node.Clear ↦ codes "CLEAR" | node.Depot ↦ codes "DEPOT" ]

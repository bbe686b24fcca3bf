-- What is told of an event and what it came to (this project's own format).
use Rattle.std.specs.Prelude.{ℕ, Bool, List, [], ◌∷◌, ◌++◌, length, codes, if◌then◌else◌}
use Rattle.std.specs.Fmt.{decimal}
use Rattle.std.specs.List.{flat_map}
use Rattle.cns_ids.specs.Cusip.{cusip_text}
use Rattle.cns_ids.specs.Cycle.{kind_text}
use Rattle.cns_ids.specs.Day.{day_text}
use Rattle.cns_ids.specs.Member.{member_text}
use Rattle.cns_movements.specs.Order.{kind_text as move_text}
use Rattle.cns_movements.specs.declared.order.Order.{Order}
use Rattle.cns_movements.specs.declared.order.Reply.{Reply}
use Rattle.cns_records.specs.Instruction.{sort_text}
use Rattle.cns_records.specs.declared.instruction.Instruction.{Instruction}
use Rattle.cns_system.specs.declared.event.Event.{Event}
use Rattle.cns_system.specs.declared.event.Event.TheVariants as event
use Rattle.cns_system.specs.declared.outcome.Outcome.{Outcome}
use Rattle.cns_system.specs.declared.outcome.Outcome.TheVariants as outcome
use Rattle.cns_report.specs.Refusals.{node_text, refusal_text, event_word}

abbrev pub yes_or_no : Bool → List ℕ
yes_or_no answer = if answer then codes "yes" else codes "no"

-- N moved Q
abbrev pub moved_text : Reply → List ℕ
moved_text r = decimal r.number ++ codes " moved " ++ decimal r.moved

-- deposit MEMBER number N, or withdraw MEMBER number N
abbrev pub instruction_text : Instruction → List ℕ
instruction_text i = sort_text i.sort ++ 32 ∷ member_text i.member ++ codes " number " ++ decimal i.number

-- the line of an event and what it came to, before those of the orders that it made. Each line ends with LF. The two looks at a lot share
-- one: the first tells its first part. (Of an outcome that the event never comes to, the line has no meaning, or there is none.)
unfoldable pub event_line : Event → Outcome → List ℕ
-- trade ID accepted
event_line e outcome.Accepted = event_word e ++ codes " accepted\n"
-- exempt ok, priority ok or seal ok
event_line e outcome.Done = event_word e ++ codes " ok\n"
-- cycle DATE KIND due N
event_line (event.Cycle id) (outcome.Cycled done) =
    codes "cycle " ++ day_text id.day ++ 32 ∷ kind_text id.kind ++ codes " due " ++ decimal done.due ++ codes "\n"
-- lot N poured Q longs N
event_line e (outcome.LotOpened lot) =
    codes "lot " ++ decimal lot.number ++ codes " poured " ++ decimal lot.poured ++ codes " longs " ++ decimal (length lot.plan) ++ codes "\n"
-- pour Q
event_line e (outcome.Poured shares) = codes "pour " ++ decimal shares ++ codes "\n"
-- ticket MEMBER start Q asked Q
event_line e (outcome.Drawn t) =
    codes "ticket " ++ member_text t.member ++ codes " start " ++ decimal t.start ++ codes " asked " ++ decimal t.asked ++ codes "\n"
-- look poured Q asked Q sealed yes, or .. no
event_line e (outcome.LookedPoured poured) = codes "look poured " ++ decimal poured
event_line e (outcome.LookedAsked asked is_sealed) = codes " asked " ++ decimal asked ++ codes " sealed " ++ yes_or_no is_sealed ++ codes "\n"
-- close granted Q
event_line e (outcome.Closed done) = codes "close granted " ++ decimal done.granted ++ codes "\n"
-- send N packet K
event_line (event.Send number) (outcome.Sent packet) = codes "send " ++ decimal number ++ codes " packet " ++ decimal packet ++ codes "\n"
-- exec N moved Q packet K
event_line e (outcome.Executed r packet) = codes "exec " ++ moved_text r ++ codes " packet " ++ decimal packet ++ codes "\n"
-- again N moved Q packet K
event_line e (outcome.ExecutedAgain r packet) = codes "again " ++ moved_text r ++ codes " packet " ++ decimal packet ++ codes "\n"
-- confirm N moved Q done
event_line e (outcome.Confirmed r) = codes "confirm " ++ moved_text r ++ codes " done\n"
-- confirm N moved Q again
event_line e (outcome.ConfirmedAgain r) = codes "confirm " ++ moved_text r ++ codes " again\n"
-- deposit MEMBER number N done, and .. again; or withdraw ..
event_line e (outcome.Instructed i) = instruction_text i ++ codes " done\n"
event_line e (outcome.InstructedAgain i) = instruction_text i ++ codes " again\n"
-- restart NODE records N kept yes, or .. no
event_line (event.Restart node) (outcome.Restarted records kept) =
    codes "restart " ++ node_text node ++ codes " records " ++ decimal records ++ codes " kept " ++ yes_or_no kept ++ codes "\n"
-- WORD refused NAME, or trade ID refused NAME
event_line e (outcome.Refused r) = event_word e ++ codes " refused " ++ refusal_text r ++ codes "\n"
event_line _ _ = []

-- order N KIND MEMBER CUSIP ASKED, of an order as it was made
unfoldable pub ordered_line : Order → List ℕ
ordered_line o =
    codes "order " ++ decimal o.number ++ 32 ∷ move_text o.kind ++ 32 ∷ member_text o.member ++ 32 ∷ cusip_text o.issue ++ 32 ∷ decimal o.asked ++ codes "\n"

-- the orders that a cycle or a close made
abbrev pub orders_made : Outcome → List Order
orders_made = elim [ outcome.Cycled done ↦ done.orders | outcome.Closed done ↦ done.orders | _ ↦ [] ]

abbrev pub outcome_line : Event → Outcome → List ℕ
outcome_line e o = event_line e o ++ flat_map ordered_line (orders_made o)

-- The commands of a script (this project's own language).
use Rattle.std.specs.Prelude.{ℕ, zero, suc, ◌==◌, Bool, false, List, [], ◌∷◌, ◌++◌, codes, drop, take, Option, Some, None, if◌then◌else◌}
use Rattle.std.specs.List.{flat_map}
use Rattle.cns_trades.specs.declared.row.Row.{Row}
use Rattle.cns_trades.specs.declared.row.Row.TheVariants as row
use Rattle.cns_netting.specs.Rows.{rows_of}
use Rattle.cns_allocate.specs.declared.planned.Planned.{Planned}
use Rattle.cns_records.specs.declared.refusal.Refusal.TheVariants as refusal
use Rattle.cns_clearing.specs.Books.{books_of}
use Rattle.cns_clearing.specs.Pools.{rows_of_pools}
use Rattle.cns_depository.specs.Balances.{balance_rows}
use Rattle.cns_shake.specs.Shake.{Lcg, event_of, pcg32}
use Rattle.cns_shake.specs.declared.shaker.TheConstants.{DRAWS}
use Rattle.cns_system.specs.Readers.{counts_of, unconfirmed}
use Rattle.cns_system.specs.Shown.{Shown}
use Rattle.cns_system.specs.declared.event.Event.{Event}
use Rattle.cns_system.specs.declared.event.Event.TheVariants as event
use Rattle.cns_system.specs.declared.event.NodeName.{NodeName}
use Rattle.cns_system.specs.declared.numbered.Opened.{Opened}
use Rattle.cns_system.specs.declared.outcome.Outcome.TheVariants as outcomes
use Rattle.cns_report.specs.Lines.{bytes_of_line}
use Rattle.cns_report.specs.Outcomes.{outcome_line}
use Rattle.cns_report.specs.Report.{balance_line, cycle_report_text}
use Rattle.cns_report.specs.declared.line.Line.TheVariants as line
use Rattle.cns_input.specs.declared.command.Command.{Command}
use Rattle.cns_input.specs.declared.command.Command.TheVariants as command
use Rattle.cns_batch.specs.declared.supply.Supply.{Supply}
use Rattle.cns_batch.specs.Acts.{Act, Gives, Plans, Looks, ◌>>=◌, ◌>>◌, done, each, happened, single, tells}

-- a row is taken: a good one is a trade, and a faulty one is told
abbrev pub row_taken : Row → Act (Unit {0})
row_taken (row.Trade t) = single (event.Trade t)
row_taken (row.Fault number fault) = tells (bytes_of_line (line.RowFault number fault))

-- the two looks at a lot; the second ends the line of the first, where that is not refused
unfoldable pub looked : ℕ → Act (Unit {0})
looked lot = happened (event.LookPoured lot) >>= elim [ outcomes.Refused r ↦ done | _ ↦ single (event.LookAsked lot) ]

-- the packet of an order arrives, and then that of its reply, where it was executed
unfoldable pub delivered : ℕ → Act (Unit {0})
delivered packet = do
  outcome ← happened (event.OrderIn packet)
  elim outcome [ outcomes.Executed r reply ↦ single (event.ReplyIn reply) | outcomes.ExecutedAgain r reply ↦ single (event.ReplyIn reply) | _ ↦ done ]

-- an order is sent, and where it was, its packet arrives
unfoldable pub pumped : ℕ → Act (Unit {0})
pumped number = happened (event.Send number) >>= elim [ outcomes.Sent packet ↦ delivered packet | _ ↦ done ]

-- so it is with each order that is unconfirmed at the start, by number
abbrev pub all_pumped : Act (Unit {0})
all_pumped = Looks (λ w. each pumped (unconfirmed w.clear.records))

-- a lot is opened, and given where it was
unfoldable pub opened : ℕ → Act (Option Opened)
opened issue = happened (event.LotOpen issue) >>= elim [ outcomes.LotOpened lot ↦ Gives (Some lot) | _ ↦ Gives None ]

-- tickets of a lot for these members, one after another, and then its close, also where it is found sealed; another refusal ends all
unfoldable pub served : ℕ → List Planned → Act (Unit {0})
served number [] = single (event.LotClose number)
served number (p ∷ plan) = do
  outcome ← happened (event.Reserve number p.member)
  elim outcome [ outcomes.Drawn t ↦ served number plan | outcomes.Refused refusal.Sealed ↦ single (event.LotClose number) | _ ↦ done ]

-- a lot is served in turn: a ticket for each member of its plan, and its close
abbrev pub served_in_turn : Opened → Act (Unit {0})
served_in_turn lot = served lot.number lot.plan

-- a lot is served so, where it was opened
abbrev pub served_if_open : (Opened → Act (Unit {0})) → Option Opened → Act (Unit {0})
served_if_open serves = elim [ None ↦ done | Some lot ↦ serves lot ]

-- a lot is opened and served
abbrev pub allocated : (Opened → Act (Unit {0})) → ℕ → Act (Unit {0})
allocated serves issue = opened issue >>= served_if_open serves

-- whether this is the number of a lot that is served beside lines
abbrev pub is_busy : Option ℕ → ℕ → Bool
is_busy busy number = elim busy [ None ↦ false | Some lot ↦ lot == number ]

-- whether an event draws a ticket of that lot, or closes it
abbrev pub names_busy : Option ℕ → Event → Bool
names_busy busy = elim [ event.Reserve lot member ↦ is_busy busy lot | event.LotClose lot ↦ is_busy busy lot | _ ↦ false ]

-- the event of a command; a ticket or a close of the lot that is served beside lines is refused, and is no event
abbrev pub event_run : Option ℕ → Event → Act (Unit {0})
event_run busy e = if names_busy busy e then tells (outcome_line e (outcomes.Refused refusal.LotBusy)) else single e

-- the next commit of a node is planned to fail, where its keeper plans failures
abbrev pub failed : NodeName → Bool → Act (Unit {0})
failed name stands = Plans name stands (λ planned. tells (bytes_of_line (if planned then line.FailurePlanned else line.FailureNotPlanned)))

abbrev pub report_text : Shown → List ℕ
report_text w =
    let book = books_of w.clear.records in cycle_report_text book.latest (rows_of book.history) (rows_of_pools book.orders w.open_lots)
    ++ flat_map balance_line (balance_rows w.openings w.depot.records) ++ codes "END\n"

-- the report of what both nodes show
abbrev pub reported : Act (Unit {0})
reported = Looks (λ w. tells (report_text w))

-- rows are taken, one after another, which leaves this
unfoldable pub rows_taken : List Row → Supply → Act Supply
rows_taken [] left = Gives left
rows_taken (r ∷ rows) left = row_taken r >> rows_taken rows left

-- so many of the rows are taken, or all where fewer are left
abbrev pub first_taken : ℕ → Supply → Act Supply
first_taken n s = rows_taken (take n s.trades) (record s { trades = drop n s.trades })

abbrev pub all_taken : Supply → Act Supply
all_taken s = rows_taken s.trades (record s { trades = [] })

-- an act that leaves all as it was
abbrev pub leaving : Supply → Act (Unit {0}) → Act Supply
leaving s act = act >> Gives s

-- ---- a run that is shaken

-- the event that a draw names, where it names one
abbrev pub drawn : Option Event → Act (Unit {0})
drawn = elim [ None ↦ done | Some e ↦ single e ]

-- so many draws, one after another: each names an event beside the counts that both nodes show then; it gives the generator after them
unfoldable pub shaken : ℕ → Lcg → Act Lcg
shaken zero g = Gives g
shaken (suc n) g = Looks (λ w. drawn (event_of (pcg32 g).0 (counts_of w)) >> shaken n (pcg32 g).1)

-- the link is shaken before a pump, where the run is shaken
abbrev pub link_shaken : Supply → Act Supply
link_shaken s = elim s.shaker [ None ↦ Gives s | Some g ↦ shaken DRAWS g >>= λ after. Gives (record s { shaker = Some after }) ]

abbrev pub pumped_after : Supply → Act Supply
pumped_after s = leaving s all_pumped

abbrev pub pumped_shaken : Supply → Act Supply
pumped_shaken s = link_shaken s >>= pumped_after

-- ---- commands

-- a command that serves no lot, in the line of this number, beside the lot of a number where one is served beside lines; it gives what is
-- left. TAKE takes so many rows; a line that opens another lot beside lines is bad here
abbrev pub plain_run : Option ℕ → ℕ → Command → Supply → Act Supply
plain_run busy n command.TakeAll s = all_taken s
plain_run busy n (command.Take many) s = first_taken many s
plain_run busy n (command.Single e) s = leaving s (event_run busy e)
plain_run busy n (command.Look lot) s = leaving s (looked lot)
plain_run busy n (command.Fail name stands) s = leaving s (failed name stands)
plain_run busy n command.Pump s = pumped_shaken s
plain_run busy n command.Report s = leaving s reported
plain_run busy n _ s = leaving s (tells (bytes_of_line (line.BadCommand n)))

-- a command; ALLOCATE opens a lot and serves it
abbrev pub command_run : (Opened → Act (Unit {0})) → Option ℕ → ℕ → Command → Supply → Act Supply
command_run serves busy n (command.Allocate issue) s = leaving s (allocated serves issue)
command_run serves busy n c s = plain_run busy n c s

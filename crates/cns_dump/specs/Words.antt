-- The words in which records are told (this project's own format).
use Rattle.std.specs.Prelude.{ℕ, Bool, List, [], ◌++◌, length, codes, Option, Some, None, if◌then◌else◌}
use Rattle.std.specs.Fmt.{decimal}
use Rattle.cns_ids.specs.Cusip.{cusip_text}
use Rattle.cns_ids.specs.Cycle.{kind_text}
use Rattle.cns_ids.specs.Day.{day_text}
use Rattle.cns_ids.specs.Member.{member_text}
use Rattle.cns_ids.specs.declared.cycle.CycleId.{CycleId}
use Rattle.cns_trades.specs.declared.trade.Trade.{Trade}
use Rattle.cns_movements.specs.Order.{kind_text as move_text}
use Rattle.cns_movements.specs.declared.order.Order.{Order}
use Rattle.cns_records.specs.declared.allocation.Allocation.{Allocation}
use Rattle.cns_records.specs.declared.clear_record.ClearRecord.{ClearRecord}
use Rattle.cns_records.specs.declared.clear_record.ClearRecord.TheVariants as clear
use Rattle.cns_records.specs.declared.dep_record.DepRecord.{DepRecord}
use Rattle.cns_records.specs.declared.dep_record.DepRecord.TheVariants as depot
use Rattle.cns_records.specs.declared.drawn.Drawn.{Drawn}
use Rattle.cns_report.specs.Outcomes.{instruction_text, moved_text, yes_or_no}
use Rattle.cns_dump.specs.declared.entry.Entry.{Entry}
use Rattle.cns_dump.specs.declared.entry.Entry.TheVariants.{Clear, Depot, Unread}

-- trade ID settle DATE buyer MEMBER seller MEMBER CUSIP SHARES
unfoldable pub trade_words : Trade → List ℕ
trade_words t =
    codes "trade " ++ t.id ++ codes " settle " ++ day_text t.settle ++ codes " buyer " ++ member_text t.buyer ++ codes " seller " ++ member_text t.seller
    ++ codes " " ++ cusip_text t.issue ++ codes " " ++ decimal t.quantity

-- WORD MEMBER CUSIP, of what is set for a member in an issue
abbrev pub set_words : List ℕ → ℕ → ℕ → List ℕ
set_words word member issue = word ++ codes " " ++ member_text member ++ codes " " ++ cusip_text issue

abbrev pub on_or_off : Bool → List ℕ
on_or_off on = if on then codes "ON" else codes "OFF"

-- cycle DATE KIND
unfoldable pub cycle_words : CycleId → List ℕ
cycle_words id = codes "cycle " ++ day_text id.day ++ codes " " ++ kind_text id.kind

-- allocate CUSIP opened N upto N poured SHARES sealed yes tickets N
unfoldable pub allocation_words : Allocation → List ℕ
allocation_words a =
    codes "allocate " ++ cusip_text a.issue ++ codes " opened " ++ decimal a.opened ++ codes " upto " ++ decimal a.upto ++ codes " poured " ++ decimal a.poured
    ++ codes " sealed " ++ yes_or_no a.sealed ++ codes " tickets " ++ decimal (length a.drawn)

-- ticket MEMBER start N asked SHARES, with LF
unfoldable pub drawn_line : Drawn → List ℕ
drawn_line t = codes "ticket " ++ member_text t.member ++ codes " start " ++ decimal t.start ++ codes " asked " ++ decimal t.asked ++ codes "\n"

unfoldable pub clear_words : ClearRecord → List ℕ
clear_words (clear.Accept t) = trade_words t
clear_words (clear.Exempt member issue shares) = set_words (codes "exempt") member issue ++ codes " " ++ decimal shares
clear_words (clear.Priority member issue on) = set_words (codes "priority") member issue ++ codes " " ++ on_or_off on
clear_words (clear.Cycle id) = cycle_words id
clear_words (clear.Allocate a) = allocation_words a
-- confirm N moved SHARES
clear_words (clear.Confirm r) = codes "confirm " ++ moved_text r

-- KIND MEMBER CUSIP SHARES, of what an order asks for, with cycle DATE KIND behind it where it has a cycle
abbrev pub cycle_behind : Option CycleId → List ℕ
cycle_behind None = []
cycle_behind (Some id) = codes " " ++ cycle_words id

unfoldable pub order_words : Order → List ℕ
order_words o = move_text o.kind ++ codes " " ++ member_text o.member ++ codes " " ++ cusip_text o.issue ++ codes " " ++ decimal o.asked ++ cycle_behind o.cycle

unfoldable pub depot_words : DepRecord → List ℕ
-- exec N KIND MEMBER CUSIP SHARES moved SHARES
depot_words (depot.Exec order moved) = codes "exec " ++ decimal order.number ++ codes " " ++ order_words order ++ codes " moved " ++ decimal moved
-- deposit MEMBER number N CUSIP SHARES
depot_words (depot.Own i) = instruction_text i ++ codes " " ++ cusip_text i.issue ++ codes " " ++ decimal i.shares

unfoldable pub entry_words : Entry → List ℕ
entry_words (Clear record') = clear_words record'
entry_words (Depot record') = depot_words record'
-- none N bytes
entry_words (Unread bytes) = codes "none " ++ decimal bytes ++ codes " bytes"

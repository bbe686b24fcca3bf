-- The commands of a script (this project's own language): a word, and arguments after it.
use Rattle.std.specs.Prelude.{ℕ, ◌^◌, ◌==◌, ◌||◌, true, false, Option, Some, None, List, [], ◌∷◌, map, length, get_or, drop, slice_index, codes, option_map, unwrap_or, if◌then◌else◌}
use Rattle.std.specs.Result.{result_ok}
use Prim.Native.String.{String}
use Rattle.cns_ids.specs.Cusip.{read_cusip}
use Rattle.cns_ids.specs.Number.{number_in}
use Rattle.cns_ids.specs.ReadDay.{read_day}
use Rattle.cns_ids.specs.declared.cycle.CycleKind.TheVariants.{Night, Day}
use Rattle.cns_trades.specs.Fields.{same_text}
use Rattle.cns_records.specs.declared.instruction.Sort.{Sort}
use Rattle.cns_records.specs.declared.instruction.Sort.TheVariants.{Deposit, Withdraw}
use Rattle.cns_system.specs.declared.event.Event.{Event}
use Rattle.cns_system.specs.declared.event.Event.TheVariants as event
use Rattle.cns_system.specs.declared.event.NodeName.{NodeName}
use Rattle.cns_system.specs.declared.event.NodeName.TheVariants as node
use Rattle.cns_words.specs.Words.{◌>>=◌, line_words}
use Rattle.cns_input.specs.Words.{word_in}
use Rattle.cns_input.specs.declared.command.Command.{Command}
use Rattle.cns_input.specs.declared.command.Command.TheVariants as command

-- ---- an argument

abbrev pub number : ℕ → ℕ → List ℕ → Option ℕ
number low high text = result_ok (number_in low high text)

-- the number of an order, of a packet or of a lot
abbrev pub place_in : List ℕ → Option ℕ
place_in = number 0 1000000000

abbrev pub member_in : List ℕ → Option ℕ
member_in = number 1 9999

-- the number of a member's own instruction, and its shares
abbrev pub move_no_in : List ℕ → Option ℕ
move_no_in = number 1 1000000

abbrev pub asked_in : List ℕ → Option ℕ
asked_in = number 1 (10 ^ 18)

abbrev pub cusip_in : List ℕ → Option ℕ
cusip_in text = result_ok (read_cusip text)

abbrev pub node_in : List ℕ → Option NodeName
node_in = word_in (("CLEAR", node.Clear) ∷ ("DEPOT", node.Depot) ∷ [])

-- all rows, or a number of them
abbrev pub take_in : List ℕ → Option Command
take_in text = if same_text text (codes "ALL") then Some command.TakeAll else option_map command.Take (number 1 1000000 text)

-- ---- so many arguments, how each is read, and what is made of them

abbrev pub none : {R : Type 0} → R → List (List ℕ) → Option R
none made words = if length words == 0 then Some made else None

abbrev pub one : {A R : Type 0} → (List ℕ → Option A) → (A → R) → List (List ℕ) → Option R
one read make words = if length words == 1 then option_map make (read (get_or words 0 [])) else None

abbrev pub two : {A B R : Type 0} → (List ℕ → Option A) → (List ℕ → Option B) → (A → B → R) → List (List ℕ) → Option R
two read next make words = if length words == 2 then (do Some (make (← read (get_or words 0 [])) (← next (get_or words 1 [])))) else None

abbrev pub three : {A B C R : Type 0} → (List ℕ → Option A) → (List ℕ → Option B) → (List ℕ → Option C) → (A → B → C → R) → List (List ℕ) → Option R
three read next last make words =
    if length words == 3 then (do Some (make (← read (get_or words 0 [])) (← next (get_or words 1 [])) (← last (get_or words 2 [])))) else None

abbrev pub four : {A B C D R : Type 0} → (List ℕ → Option A) → (List ℕ → Option B) → (List ℕ → Option C) → (List ℕ → Option D) → (A → B → C → D → R) → List (List ℕ) → Option R
four read next third last make words =
    if length words == 4 then
    (do Some (make (← read (get_or words 0 [])) (← next (get_or words 1 [])) (← third (get_or words 2 [])) (← last (get_or words 3 []))))
    else None

-- ---- the commands

-- a member's own instruction of a sort: its member, its number, the issue and the shares
abbrev pub own_in : Sort → List (List ℕ) → Option Event
own_in sort =
    four member_in move_no_in cusip_in asked_in
    (λ member number issue shares. event.Own (record { sort = sort; member = member; number = number; issue = issue; shares = shares }))

-- those that are one event, but for the three of the link
abbrev pub events : List (String × (List (List ℕ) → Option Event))
events =
    ("RESTART", one node_in event.Restart)
    ∷ ("LOT", one cusip_in event.LotOpen)
    ∷ ("POUR", one place_in event.LotPour)
    ∷ ("RESERVE", two place_in member_in event.Reserve)
    ∷ ("SEAL", one place_in event.Seal)
    ∷ ("CLOSE", one place_in event.LotClose)
    ∷ ("CYCLE", two (word_in (("NIGHT", Night) ∷ ("DAY", Day) ∷ [])) (λ text. result_ok (read_day text)) (λ kind day. event.Cycle (record { day = day; kind = kind })))
    ∷ ("EXEMPT", three member_in cusip_in (number 0 (10 ^ 18)) event.Exempt)
    ∷ ("PRIORITY", three member_in cusip_in (word_in (("ON", true) ∷ ("OFF", false) ∷ [])) event.Priority)
    ∷ ("DEPOSIT", own_in Deposit)
    ∷ ("WITHDRAW", own_in Withdraw)
    ∷ []

-- all: those of the link, two that stand alone, and the others, which have words behind theirs
abbrev pub commands : List (String × (List (List ℕ) → Option Command))
commands =
    ("SEND", one place_in (λ number. command.Single (event.Send number)))
    ∷ ("ORDER", one place_in (λ packet. command.Single (event.OrderIn packet)))
    ∷ ("REPLY", one place_in (λ packet. command.Single (event.ReplyIn packet)))
    ∷ ("PUMP", none command.Pump) ∷ ("REPORT", none command.Report)
    ∷ ("TAKE", one take_in (λ take. take))
    ∷ ("LOOK", one place_in command.Look)
    ∷ ("ALLOCATE", one cusip_in command.Allocate)
    ∷ ("BESIDE", two cusip_in (number 0 1000) command.Beside)
    ∷ ("FAIL", two node_in (word_in (("KEEP", true) ∷ ("DROP", false) ∷ [])) command.Fail)
    ∷ map (λ row. (row.0, λ words. option_map command.Single (row.1 words))) events

-- what words are by a table: the first one says how those behind it are read
abbrev pub by_table : {R : Type 0} → List (String × (List (List ℕ) → Option R)) → List (List ℕ) → Option R
by_table table words = do form ← word_in table (get_or words 0 []); form (drop 1 words)

-- the command that a line is: blank lines and those that begin with # are passed over, and one that fits no form is bad
unfoldable pub command_of : List ℕ → Command
command_of line =
    if (length line == 0) || (slice_index line 0 == 35) then command.Skip else unwrap_or (by_table commands (line_words line)) command.Bad

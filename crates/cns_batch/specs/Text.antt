-- The output text of a whole input, and what a fault says of it.
use Rattle.std.specs.Prelude.{◌≡◌, ◌⊎◌, All, ⊤, ℕ, Bool, nat_le, true, false, List, [], ◌++◌, length, take, Option, None, Result, Ok, Err, option_map, if◌then◌else◌}
use Rattle.std.specs.Io.KnownBytes.{Appends}
use Rattle.std.specs.List.{enumerate_from, fold}
use Rattle.std.specs.Option.{ok_or}
use Rattle.cns_ids.specs.Steps.{◌>>=◌, ◌>>◌, need}
use Rattle.cns_trades.specs.Openings.{opening_rows}
use Rattle.cns_trades.specs.Rows.{trade_rows}
use Rattle.cns_trades.specs.declared.fault.CsvFault.{CsvFault}
use Rattle.cns_trades.specs.declared.fault.CsvFault.TheVariants as rows
use Rattle.cns_trades.specs.declared.opening.Opening.{Opening}
use Rattle.cns_trades.specs.declared.row.Row.{Row}
use Rattle.cns_journal.specs.Keeper.{Succeeds, KeeperState}
use Rattle.cns_journal.specs.RecordLog.{IsGivenUp, LogShown}
use Rattle.cns_system.specs.Scene.{Chance, Scene, KeeperKnowledge, scene_of}
use Rattle.cns_records.specs.Clear.{spelling}
use Rattle.cns_records.specs.Dep.{dep_spelling}
use Rattle.cns_records.specs.declared.clear_record.ClearRecord.{ClearRecord}
use Rattle.cns_records.specs.declared.dep_record.DepRecord.{DepRecord}
use Rattle.cns_system.specs.Shown.{Shown}
use Rattle.cns_journal.specs.declared.record_log.ReplayFault.TheVariants as replay
use Rattle.cns_system.specs.Start.{IsNotOpened, IsStarted}
use Rattle.cns_system.specs.declared.fault.StartFault.{StartFault}
use Rattle.cns_system.specs.declared.fault.StartFault.TheVariants as start
use Rattle.cns_system.specs.World.{World}
use Rattle.cns_system.specs.declared.numbered.Opened.{Opened}
use Rattle.cns_shake.specs.Shake.{generator_of}
use Rattle.cns_batch.specs.declared.supply.Supply.{Supply}
use Rattle.cns_batch.specs.Acts.{Act, Gives}
use Rattle.cns_batch.specs.ByWorkers.{ComesToPass, served_by_workers}
use Rattle.cns_batch.specs.Commands.{served_in_turn}
use Rattle.cns_batch.specs.InTurn.{Told, in_turn, scene_at}
use Rattle.cns_batch.specs.Runs.{Exchange, ActLeaves, text_said}
use Rattle.cns_batch.specs.Opened.{told_opening}
use Rattle.cns_batch.specs.Run.{commands_of, script_run}
use Rattle.cns_input.specs.Sections.{raw_lines, sections}
use Rattle.cns_input.specs.declared.fault.BatchFault.{BatchFault}
use Rattle.cns_input.specs.declared.fault.BatchFault.TheVariants as fault

-- what an input holds: the openings that stand, what the rows of openings tell, the rows of trades, and the script
pub record Input : Type 0 where
  pub openings : List Opening
  pub told : List ℕ
  pub rows : List Row
  pub script : List ℕ

-- what the sections of a text hold, or their fault
abbrev pub parts_of : List ℕ → Result Input BatchFault
parts_of bytes = do
  (openings, trades, script) ← ok_or (sections bytes) fault.Sections
  opened ← ok_or (opening_rows openings) fault.Csv
  rows ← ok_or (trade_rows trades) fault.Csv
  let (held, told) = fold told_opening ([], []) (enumerate_from 1 opened)
  Ok (record { openings = held; told = told; rows = rows; script = script })

-- what the bytes of an input hold, or their first fault: no more than 67,108,864 bytes are read
abbrev pub input_of : List ℕ → Result Input BatchFault
input_of bytes = need (nat_le (length bytes) 67108864) fault.TooLong >> parts_of bytes

-- what the commands of an input's script take from, in a run that is shaken by a number, or not
abbrev pub supply_of : Option ℕ → Input → Supply
supply_of shake input = record { trades = input.rows; shaker = option_map generator_of shake }

-- what the script does, where lots are served so
abbrev pub script_of : (Opened → Act (Unit {0})) → Option ℕ → Input → Act Supply
script_of serves shake input = script_run serves 0 (commands_of 1 (raw_lines input.script)) (supply_of shake input)

-- what it comes to in turn, from a scene on, by what comes between
abbrev pub run_from : Option ℕ → List Chance → Scene → Input → Told Supply
run_from shake chances scene input = in_turn (script_of served_in_turn shake input) (record { scene = scene; chances = chances })

-- the output text of an input, from a scene on, by what comes between
abbrev pub text_from : Option ℕ → List Chance → Scene → Input → List ℕ
text_from shake chances scene input = input.told ++ (run_from shake chances scene input).text

-- both nodes over keepers in memory without records
abbrev pub first_scene : List Opening → Scene
first_scene openings =
    let clear : LogShown ClearRecord = record { records = []; tried = None; down = false } in
    let depot : LogShown DepRecord = record { records = []; tried = None; down = false } in
    let sight : KeeperKnowledge = record { honest = true; foresight = record { next = Succeeds; stands = None } } in
    let shown : Shown = record { clear = clear; open_lots = []; lots = []; openings = openings; depot = depot; order_packets = []; reply_packets = [] } in
    record { shown = shown; clear = sight; depot = sight }

-- the output text of an input's bytes over keepers in memory, by what comes between, or the fault of the bytes
abbrev pub text_by : Option ℕ → List Chance → List ℕ → Result (List ℕ) BatchFault
text_by shake chances bytes = input_of bytes >>= λ input. Ok (text_from shake chances (first_scene input.openings) input)

-- and where nothing comes between, and the run is not shaken
abbrev pub text_of : List ℕ → Result (List ℕ) BatchFault
text_of bytes = text_by None [] bytes

-- a keeper in memory without records
abbrev pub new_keeper : KeeperState
new_keeper = record {
  honest = true;
  run = record { down = false; failures = 0; count = 0 };
  journal = record { kept = []; undecided = None };
  foresight = record { next = Succeeds; stands = None };
}

-- the fault of a batch whose rows cannot be read
abbrev pub fault_of_rows : CsvFault → BatchFault
fault_of_rows rows.OutOfMemory = fault.Memory
fault_of_rows rows.Reading = fault.Read
fault_of_rows rows.Header = fault.Csv

-- what a fault of the sections of a text says of them
abbrev pub Tells : BatchFault → Result Input BatchFault → Type 0
Tells fault.Sections r = r ≡ Err fault.Sections
Tells fault.Csv r = r ≡ Err fault.Csv
Tells fault.Read r = ⊤
Tells fault.Memory r = ⊤
Tells fault.TooLong r = ⊥
Tells fault.Journal r = ⊥
Tells fault.Write r = ⊥

-- ---- what a batch leaves of what its writer holds

-- both keepers are as nodes in this scene give them up
abbrev pub AreGivenUp : Scene → KeeperState → KeeperState → Type 0
AreGivenUp scene clear depot = (w : World) × (scene_of w ≡ scene) × IsGivenUp spelling w.clear.clear.log clear × IsGivenUp dep_spelling w.depot.log depot

-- the text over these keepers was written, and they are left as the script leaves them
abbrev pub WritesAll : Option ℕ → Input → KeeperState → KeeperState → KeeperState → KeeperState → Option (List ℕ) → Option (List ℕ) → Type 0
WritesAll shake input clear depot clear' depot' old new =
    (w : World) × IsStarted input.openings clear depot w
    × ((chances : List Chance) × Appends old new (text_from shake chances (scene_of w) input) × AreGivenUp (run_from shake chances (scene_of w) input).course.scene clear' depot')

-- a first part of that text was written, and they are left as the first so many of what occurs by the script leave them
abbrev pub WritesPart : Option ℕ → Input → KeeperState → KeeperState → KeeperState → KeeperState → Option (List ℕ) → Option (List ℕ) → Type 0
WritesPart shake input clear depot clear' depot' old new =
    (w : World) × IsStarted input.openings clear depot w
    × ((chances : List Chance) × ((size : ℕ) × Appends old new (take size (text_from shake chances (scene_of w) input)))
    × ((count : ℕ) × AreGivenUp (scene_at (scene_of w) (take count (run_from shake chances (scene_of w) input).occurred)) clear' depot'))

-- an opening is refused for want of memory
abbrev pub lacks_memory : StartFault → Bool
lacks_memory (start.Clear replay.OutOfMemory) = true
lacks_memory (start.Depot replay.OutOfMemory) = true
lacks_memory _ = false

-- both nodes were not opened, for want of memory or for another cause
abbrev pub IsUnopened : Bool → Input → KeeperState → KeeperState → KeeperState → KeeperState → Type 0
IsUnopened for_memory input clear depot clear' depot' =
    (why : StartFault) × (rejected : List (List ℕ)) × (lacks_memory why ≡ for_memory) × IsNotOpened input.openings why rejected clear depot clear' depot'

-- what a batch over the input leaves of both keepers and of what its writer holds, by its answer
abbrev pub RunsInput : Result (Unit {0}) BatchFault → Option ℕ → Input → KeeperState → KeeperState → KeeperState → KeeperState → Option (List ℕ) → Option (List ℕ) → Type 0
RunsInput (Ok _) shake input clear depot clear' depot' old new = WritesAll shake input clear depot clear' depot' old new
RunsInput (Err fault.Journal) shake input clear depot clear' depot' old new = IsUnopened false input clear depot clear' depot' × (new ≡ old)
RunsInput (Err fault.Memory) shake input clear depot clear' depot' old new =
    (IsUnopened true input clear depot clear' depot' × (new ≡ old)) ⊎ WritesPart shake input clear depot clear' depot' old new
RunsInput (Err fault.Write) shake input clear depot clear' depot' old new = WritesPart shake input clear depot clear' depot' old new
RunsInput (Err _) shake input clear depot clear' depot' old new = ⊥

abbrev pub fault_of_start : StartFault → BatchFault
fault_of_start why = if lacks_memory why then fault.Memory else fault.Journal

-- the faults with which nothing was written
abbrev pub WritesNothing : BatchFault → Type 0
WritesNothing fault.Memory = ⊥
WritesNothing fault.Write = ⊥
WritesNothing _ = Unit {0}

-- what a batch over keepers leaves, by its answer
abbrev pub KeptLeaves : Result (Unit {0}) BatchFault → Option ℕ → List ℕ → KeeperState → KeeperState → KeeperState → KeeperState → Option (List ℕ) → Option (List ℕ) → Type 0
KeptLeaves (Ok _) shake bytes clear depot clear' depot' old new =
    (input : Input) × (input_of bytes ≡ Ok input) × RunsInput (Ok tt) shake input clear depot clear' depot' old new
KeptLeaves (Err fault.Read) shake bytes clear depot clear' depot' old new = (clear' ≡ clear) × (depot' ≡ depot)
KeptLeaves (Err fault.TooLong) shake bytes clear depot clear' depot' old new = (input_of bytes ≡ Err fault.TooLong) × (clear' ≡ clear) × (depot' ≡ depot)
KeptLeaves (Err fault.Sections) shake bytes clear depot clear' depot' old new = (input_of bytes ≡ Err fault.Sections) × (clear' ≡ clear) × (depot' ≡ depot)
KeptLeaves (Err fault.Csv) shake bytes clear depot clear' depot' old new = (input_of bytes ≡ Err fault.Csv) × (clear' ≡ clear) × (depot' ≡ depot)
KeptLeaves (Err fault.Journal) shake bytes clear depot clear' depot' old new =
    (input : Input) × (input_of bytes ≡ Ok input) × RunsInput (Err fault.Journal) shake input clear depot clear' depot' old new
KeptLeaves (Err fault.Memory) shake bytes clear depot clear' depot' old new =
    ((new ≡ old) × (clear' ≡ clear) × (depot' ≡ depot))
    ⊎ ((input : Input) × (input_of bytes ≡ Ok input) × RunsInput (Err fault.Memory) shake input clear depot clear' depot' old new)
KeptLeaves (Err fault.Write) shake bytes clear depot clear' depot' old new =
    (input : Input) × (input_of bytes ≡ Ok input) × RunsInput (Err fault.Write) shake input clear depot clear' depot' old new

-- the same, where nothing is said of what becomes of the keepers
abbrev pub LeavesSomeKeepers : Result (Unit {0}) BatchFault → Option ℕ → List ℕ → KeeperState → KeeperState → Option (List ℕ) → Option (List ℕ) → Type 0
LeavesSomeKeepers result shake bytes clear depot old new = (clear' : KeeperState) × (depot' : KeeperState) × KeptLeaves result shake bytes clear depot clear' depot' old new

-- both nodes are opened over these keepers with the openings of the bytes
abbrev pub OpensBoth : List ℕ → KeeperState → KeeperState → Type 0
OpensBoth bytes clear depot = (input : Input) × (input_of bytes ≡ Ok input) × ((w : World) × IsStarted input.openings clear depot w)

-- what an answer says of the bytes and of the keepers, whatever was written
abbrev pub SaysOf : Result (Unit {0}) BatchFault → List ℕ → KeeperState → KeeperState → Type 0
SaysOf (Ok _) bytes clear depot = OpensBoth bytes clear depot
SaysOf (Err fault.Read) bytes clear depot = ⊤
SaysOf (Err fault.TooLong) bytes clear depot = input_of bytes ≡ Err fault.TooLong
SaysOf (Err fault.Sections) bytes clear depot = input_of bytes ≡ Err fault.Sections
SaysOf (Err fault.Csv) bytes clear depot = input_of bytes ≡ Err fault.Csv
SaysOf (Err fault.Journal) bytes clear depot =
    (input : Input) × (input_of bytes ≡ Ok input) × ((clear' : KeeperState) × (depot' : KeeperState) × IsUnopened false input clear depot clear' depot')
SaysOf (Err fault.Memory) bytes clear depot = ⊤
SaysOf (Err fault.Write) bytes clear depot = OpensBoth bytes clear depot

-- the text over keepers in memory was written, or a first part of it
abbrev pub WritesText : List ℕ → Option (List ℕ) → Option (List ℕ) → Type 0
WritesText bytes old new = (chances : List Chance) × (text : List ℕ) × (text_by None chances bytes ≡ Ok text) × Appends old new text

abbrev pub WritesTextPart : List ℕ → Option (List ℕ) → Option (List ℕ) → Type 0
WritesTextPart bytes old new = (chances : List Chance) × (text : List ℕ) × (size : ℕ) × (text_by None chances bytes ≡ Ok text) × Appends old new (take size text)

-- what a batch over keepers in memory leaves, by its answer
abbrev pub BatchLeaves : Result (Unit {0}) BatchFault → List ℕ → Option (List ℕ) → Option (List ℕ) → Type 0
BatchLeaves (Ok _) bytes old new = WritesText bytes old new
BatchLeaves (Err fault.Read) bytes old new = ⊤
BatchLeaves (Err fault.TooLong) bytes old new = text_of bytes ≡ Err fault.TooLong
BatchLeaves (Err fault.Sections) bytes old new = text_of bytes ≡ Err fault.Sections
BatchLeaves (Err fault.Csv) bytes old new = text_of bytes ≡ Err fault.Csv
BatchLeaves (Err fault.Journal) bytes old new = ⊥
BatchLeaves (Err fault.Memory) bytes old new = (new ≡ old) ⊎ WritesTextPart bytes old new
BatchLeaves (Err fault.Write) bytes old new = WritesTextPart bytes old new

-- ---- what a batch whose lots workers serve leaves of what its writer holds

-- the text of a way through the script was written: the lines of events that came to pass at a desk, in their order, and of what is no
-- event; all of the script was run
abbrev pub WritesWhole : Option ℕ → List ℕ → Option (List ℕ) → Option (List ℕ) → Type 0
WritesWhole shake bytes old new =
    (input : Input) × (input_of bytes ≡ Ok input)
    × ((said : List Exchange) × (left : Supply) × ActLeaves (script_of served_by_workers shake input) said (Gives left) × All ComesToPass said
    × Appends old new (input.told ++ text_said said))

-- so much of it was run, and a first part of the text was written
abbrev pub WritesFront : Option ℕ → List ℕ → Option (List ℕ) → Option (List ℕ) → Type 0
WritesFront shake bytes old new =
    (input : Input) × (input_of bytes ≡ Ok input)
    × ((said : List Exchange) × (left : Act Supply) × (size : ℕ) × ActLeaves (script_of served_by_workers shake input) said left × All ComesToPass said
    × Appends old new (take size (input.told ++ text_said said)))

-- what is written, by the answer
abbrev pub WritesByWorkers : Result (Unit {0}) BatchFault → Option ℕ → List ℕ → Option (List ℕ) → Option (List ℕ) → Type 0
WritesByWorkers (Ok _) shake bytes old new = WritesWhole shake bytes old new
WritesByWorkers (Err fault.Write) shake bytes old new = WritesFront shake bytes old new
WritesByWorkers (Err fault.Memory) shake bytes old new = (new ≡ old) ⊎ WritesFront shake bytes old new
WritesByWorkers (Err _) shake bytes old new = new ≡ old

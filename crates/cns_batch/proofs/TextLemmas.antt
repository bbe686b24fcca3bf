-- What a run of a script writes of an input's text.
use Rattle.std.proofs.Common.{◌≡◌, ◌≤◌, ◌<◌, ℕ, Bool, false, true, length, List, [], ◌++◌, take, Option, None, Some, Result, Ok, Err, refl, sym, ap, ◌∙◌, inl, inr, arith, append_assoc, length-append}
use Rattle.std.specs.Prelude.{IfErr, OnOk, if◌then◌else◌}
use Rattle.std.proofs.Math.Seq.{take-append_seam}
use Rattle.std.proofs.lemmas.List.{append-nil}
use Rattle.std.proofs.lemmas.Bool.{le-leb, lt-leb}
use Rattle.std.specs.Io.KnownBytes.{Appends, Consumes}
use Rattle.cns_ids.specs.Steps.{◌>>=◌}
use Rattle.cns_journal.specs.Keeper.{KeeperState}
use Rattle.cns_journal.specs.RecordLog.{IsGivenUp}
use Rattle.cns_records.specs.Clear.{spelling}
use Rattle.cns_records.specs.Dep.{dep_spelling}
use Rattle.cns_system.specs.Scene.{Chance, Scene, scene_of}
use Rattle.cns_system.specs.Start.{IsNotOpened, IsStarted}
use Rattle.cns_system.specs.World.{World}
use Rattle.cns_system.specs.declared.fault.StartFault.{StartFault}
use Rattle.cns_batch.specs.declared.supply.Supply.{Supply}
use Rattle.cns_batch.specs.Acts.{Gives}
use Rattle.cns_batch.specs.Commands.{served_in_turn}
use Rattle.cns_batch.specs.InTurn.{LeadsInTurn, Told, in_turn}
use Rattle.cns_batch.specs.Ending.{batch_result}
use Rattle.cns_batch.specs.Runs.{Continues, Output, Place, Runs, Stops, Writes, leaves, output_at, text_said}
use Rattle.cns_input.specs.Reading.{HasGiven, IsInput, IsReadFault}
use Rattle.cns_batch.specs.Text.{BatchLeaves, Input, KeptLeaves, OpensBoth, RunsInput, SaysOf, Tells, WritesAll, WritesNothing, WritesPart, WritesTextPart, fault_of_start, input_of, lacks_memory, new_keeper, first_scene, parts_of, run_from, script_of, text_by, text_from}
use Rattle.cns_input.specs.declared.fault.BatchFault.{BatchFault}
use Rattle.cns_input.specs.declared.fault.BatchFault.TheVariants as fault
use Rattle.cns_batch.specs.declared.fault.OutputFault.{OutputFault}
use Rattle.cns_batch.specs.declared.fault.OutputFault.TheVariants as output
use Rattle.cns_batch.proofs.InTurnLemmas.{all_in_turn, course}
use Rattle.cns_batch.proofs.OpenedLemmas.{none_unopened, started_first}
use Rattle.cns_batch.proofs.PrintLemmas.{take_front}

-- both keepers of a place that was come to are as its nodes give them up
abbrev pub AreOf : Place World → KeeperState → KeeperState → Type 0
AreOf q clear depot = IsGivenUp spelling q.nodes.clear.clear.log clear × IsGivenUp dep_spelling q.nodes.depot.log depot

-- a script at its start
abbrev pub start : {N : Type 0} → Input → N → Option (List ℕ) → Place N
start input nodes sent = record { nodes = nodes; held = input.told; sent = sent }

-- all of a text was written where nothing is held any more
pub all_written : (text : List ℕ) (old new : Output) → Writes text old new → new.held ≡ [] → Appends old.sent new.sent (old.held ++ text)
all_written text old new (part, appends, all) none = rw (← all, none, append-nil part) appends

wrote_all : (shake : Option ℕ) (input : Input) (clear depot clear' depot' : KeeperState) (w : World) (last_left : Supply) (sent : Option (List ℕ)) (q : Place World) → IsStarted input.openings clear depot w
    → Continues LeadsInTurn (script_of served_in_turn shake input) (Gives last_left) (start input w sent) q → q.held ≡ [] → AreOf q clear' depot'
    → WritesAll shake input clear depot clear' depot' sent q.sent
unfolding in_turn
wrote_all shake input clear depot clear' depot' w last_left sent q started one none left =
    let text = text_said one.said in
    let run = all_in_turn one.said (script_of served_in_turn shake input) (Gives last_left) w q.nodes one.follows one.led in
    let here : text_from shake (run.chances ++ []) (scene_of w) input ≡ input.told ++ text = ap (λ (t : Told (Supply)). input.told ++ t.text) (run.act_is []) ∙ rw (append-nil text) refl in
    let last = sym (ap (λ (t : Told (Supply)). t.course.scene) (run.act_is [])) in
    (w, started, (run.chances ++ [], rw here (all_written text (output_at (start input w sent)) (output_at q) one.writes none), (q.nodes, last, left.0, left.1)))

wrote_part : (shake : Option ℕ) (input : Input) (clear depot clear' depot' : KeeperState) (w : World) (sent : Option (List ℕ)) (q : Place World) → IsStarted input.openings clear depot w
    → Stops LeadsInTurn (script_of served_in_turn shake input) (start input w sent) q → AreOf q clear' depot' → WritesPart shake input clear depot clear' depot' sent q.sent
wrote_part shake input clear depot clear' depot' w sent q started stop left =
    let run = all_in_turn stop.said (script_of served_in_turn shake input) stop.left w q.nodes stop.follows stop.led in
    let chances = run.chances ++ [] in
    let text = text_said stop.said in
    let rest = in_turn stop.left (course q.nodes []) in
    let told : text_from shake chances (scene_of w) input ≡ (input.told ++ text) ++ rest.text =
    ap (λ (t : Told (Supply)). input.told ++ t.text) (run.act_is []) ∙ sym (append_assoc input.told text rest.text) in
    let (size, same) = take_front stop.writes.0 (input.told ++ text) rest.text in
    let first : take (length run.occurred) (run_from shake chances (scene_of w) input).occurred ≡ run.occurred =
    ap (λ (t : Told (Supply)). take (length run.occurred) t.occurred) (run.act_is []) ∙ take-append_seam run.occurred rest.occurred in
    (w, started, (chances, (size, rw (told, same) stop.writes.1), (length run.occurred, (q.nodes, rw first run.scene, left.0, left.1))))

pub runs_input : (ran : Result (Unit {0}) OutputFault) (shake : Option ℕ) (input : Input) (clear depot clear' depot' : KeeperState) (w : World) (last_left : Supply) (sent : Option (List ℕ)) (q : Place World)
    → IsStarted input.openings clear depot w → Runs LeadsInTurn (script_of served_in_turn shake input) (leaves ran last_left) (start input w sent) q → OnOk ran (q.held ≡ []) → AreOf q clear' depot'
    → RunsInput (batch_result ran) shake input clear depot clear' depot' sent q.sent
runs_input (Ok u) shake input clear depot clear' depot' w last_left sent q started one none left = wrote_all shake input clear depot clear' depot' w last_left sent q started one none left
runs_input (Err output.Memory) shake input clear depot clear' depot' w last_left sent q started stop none left = inr (wrote_part shake input clear depot clear' depot' w sent q started stop left)
runs_input (Err output.Write) shake input clear depot clear' depot' w last_left sent q started stop none left = wrote_part shake input clear depot clear' depot' w sent q started stop left

-- ---- the bytes of an input, and their size

-- bytes that are no more than may be read
pub within : (bytes : List ℕ) → length bytes ≤ 67108864 → input_of bytes ≡ parts_of bytes
within bytes le = rw (le-leb (length bytes) 67108864 le) refl

-- and bytes that are more
pub too_long : (bytes : List ℕ) → 67108864 < length bytes → input_of bytes ≡ Err fault.TooLong
too_long bytes more = rw (lt-leb (length bytes) 67108864 more) refl

-- there are bytes that are those that are known, where some are
pub some_input : (known : Option (List ℕ)) → (bytes : List ℕ) × IsInput known bytes
some_input None = ([], tt)
some_input (Some all) = (all, refl)

-- a reader gave more bytes than may be read, and so there are more
long_input : (known left : Option (List ℕ)) (given : List ℕ) → Consumes known left given → 67108864 < length given
    → (bytes : List ℕ) × IsInput known bytes × (67108864 < length bytes)
long_input None left given took more = (given, tt, more)
long_input (Some all) None given took more = absurd took
long_input (Some all) (Some rest) given took more = (all, refl, rw took (omega (arith, length-append given rest, more)))

-- an answer that comes once all is read is not that there is too much
pub given_after : {A B : Type 0} (text : A) (result : Result B BatchFault) (old new : Option (List ℕ)) → (result ≡ Err fault.TooLong → ⊥) → HasGiven (Ok text) old new → HasGiven result old new
given_after text result old new other (given, took, long) = (given, took, (λ is. absurd (other is), λ more. absurd (cc (long.1 more))))

pub given_refused : {A B : Type 0} (e : BatchFault) (old new : Option (List ℕ)) → HasGiven {A = A} (Err e) old new → HasGiven {A = B} (Err e) old new
given_refused e old new (given, took, long) = (given, took, (λ is. long.0 (cc is), λ more. cc (long.1 more)))

-- ---- what a batch over keepers leaves

-- the input was read, and ran
pub kept_by : (result : Result (Unit {0}) BatchFault) (shake : Option ℕ) (bytes : List ℕ) (input : Input) (c d c' d' : KeeperState) (old new : Option (List ℕ)) → input_of bytes ≡ Ok input
    → RunsInput result shake input c d c' d' old new → KeptLeaves result shake bytes c d c' d' old new
kept_by (Ok u) shake bytes input c d c' d' old new is runs = (input, is, runs)
kept_by (Err fault.Journal) shake bytes input c d c' d' old new is runs = (input, is, runs)
kept_by (Err fault.Memory) shake bytes input c d c' d' old new is runs = inr (input, is, runs)
kept_by (Err fault.Write) shake bytes input c d c' d' old new is runs = (input, is, runs)
kept_by (Err _) shake bytes input c d c' d' old new is runs = absurd runs

-- the input was read, and is refused
pub refused_by : (e : BatchFault) (shake : Option ℕ) (bytes : List ℕ) (c d : KeeperState) (old : Option (List ℕ)) → length bytes ≤ 67108864 → Tells e (parts_of bytes) → KeptLeaves (Err e) shake bytes c d c d old old
refused_by fault.Read shake bytes c d old le told = (refl, refl)
refused_by fault.Sections shake bytes c d old le told = (within bytes le ∙ told, refl, refl)
refused_by fault.Csv shake bytes c d old le told = (within bytes le ∙ told, refl, refl)
refused_by fault.Memory shake bytes c d old le told = inl (refl, refl, refl)
refused_by _ shake bytes c d old le told = absurd told

-- and another answer than that it is too long
pub refuses_other : (e : BatchFault) (r : Result Input BatchFault) → Tells e r → e ≡ fault.TooLong → ⊥
refuses_other e r told is = rw is at told

-- the input was not read to its end
pub kept_unread : {A : Type 0} (e : BatchFault) (shake : Option ℕ) (known left : Option (List ℕ)) (c d : KeeperState) (old : Option (List ℕ)) → IsReadFault e → HasGiven {A = A} (Err e) known left
    → (bytes : List ℕ) × IsInput known bytes × KeptLeaves (Err e) shake bytes c d c d old old
kept_unread fault.Read shake known left c d old kind gave = let (bytes, all) = some_input known in (bytes, all, (refl, refl))
kept_unread fault.Memory shake known left c d old kind gave = let (bytes, all) = some_input known in (bytes, all, inl (refl, refl, refl))
kept_unread fault.TooLong shake known left c d old kind (given, took, long) =
    let (bytes, all, more) = long_input known left given took (long.0 refl) in (bytes, all, (too_long bytes more, refl, refl))
kept_unread _ shake known left c d old kind gave = absurd kind

-- ---- over keepers in memory

abbrev pub text_in : Option ℕ → List Chance → Result Input BatchFault → Result (List ℕ) BatchFault
text_in shake chances read = read >>= λ input. Ok (text_from shake chances (first_scene input.openings) input)

text_here : (shake : Option ℕ) (chances : List Chance) (bytes : List ℕ) (input : Input) (w : World) → input_of bytes ≡ Ok input → IsStarted input.openings new_keeper new_keeper w
    → text_by shake chances bytes ≡ Ok (text_from shake chances (scene_of w) input)
text_here shake chances bytes input w is started =
    let text_over : Scene → Result (List ℕ) BatchFault = λ s. Ok (text_from shake chances s input) in
    ap (text_in shake chances) is ∙ ap text_over (sym (started_first input.openings w started))

part_here : (bytes : List ℕ) (input : Input) (c' d' : KeeperState) (old new : Option (List ℕ)) → input_of bytes ≡ Ok input → WritesPart None input new_keeper new_keeper c' d' old new
    → WritesTextPart bytes old new
part_here bytes input c' d' old new is (w, started, (chances, (size, written), left)) =
    (chances, text_from None chances (scene_of w) input, size, text_here None chances bytes input w is started, written)

batch_by : (result : Result (Unit {0}) BatchFault) (bytes : List ℕ) (c' d' : KeeperState) (old new : Option (List ℕ)) → KeptLeaves result None bytes new_keeper new_keeper c' d' old new
    → BatchLeaves result bytes old new
batch_by (Ok u) bytes c' d' old new (input, is, (w, started, (chances, written, left))) =
    (chances, text_from None chances (scene_of w) input, text_here None chances bytes input w is started, written)
batch_by (Err fault.Read) bytes c' d' old new left = tt
batch_by (Err fault.TooLong) bytes c' d' old new left = ap (text_in None []) left.0
batch_by (Err fault.Sections) bytes c' d' old new left = ap (text_in None []) left.0
batch_by (Err fault.Csv) bytes c' d' old new left = ap (text_in None []) left.0
batch_by (Err fault.Journal) bytes c' d' old new (input, is, (unopened, same)) = absurd (none_unopened input c' d' unopened)
batch_by (Err fault.Memory) bytes c' d' old new (inl left) = inl left.0
batch_by (Err fault.Memory) bytes c' d' old new (inr (input, is, inl unopened)) = inl unopened.1
batch_by (Err fault.Memory) bytes c' d' old new (inr (input, is, inr part)) = inr (part_here bytes input c' d' old new is part)
batch_by (Err fault.Write) bytes c' d' old new (input, is, part) = part_here bytes input c' d' old new is part

pub batch_leaves : (known : Option (List ℕ)) (result : Result (Unit {0}) BatchFault) (c d c' d' : KeeperState) (old new : Option (List ℕ)) → c ≡ new_keeper → d ≡ new_keeper
    → (bytes : List ℕ) × IsInput known bytes × KeptLeaves result None bytes c d c' d' old new → (bytes : List ℕ) × IsInput known bytes × BatchLeaves result bytes old new
batch_leaves known result c d c' d' old new is_c is_d (bytes, all, kept) = (bytes, all, batch_by result bytes c' d' old new (rw (is_c, is_d) at kept))

-- ---- what an answer says of the input, whatever was written

said_unopened : (short : Bool) (bytes : List ℕ) (input : Input) (why : StartFault) (rejected : List (List ℕ)) (c d c' d' : KeeperState) → lacks_memory why ≡ short → input_of bytes ≡ Ok input
    → IsNotOpened input.openings why rejected c d c' d' → SaysOf (Err (if short then fault.Memory else fault.Journal)) bytes c d
said_unopened true bytes input why rejected c d c' d' short is unopened = tt
said_unopened false bytes input why rejected c d c' d' short is unopened = (input, is, (c', d', (why, rejected, short, unopened)))

pub says_unopened : (known : Option (List ℕ)) (bytes : List ℕ) (input : Input) (why : StartFault) (rejected : List (List ℕ)) (c d c' d' : KeeperState) → IsInput known bytes → length bytes ≤ 67108864
    → parts_of bytes ≡ Ok input → IsNotOpened input.openings why rejected c d c' d' → (bytes : List ℕ) × IsInput known bytes × SaysOf (Err (fault_of_start why)) bytes c d
says_unopened known bytes input why rejected c d c' d' all le is unopened =
    (bytes, all, said_unopened (lacks_memory why) bytes input why rejected c d c' d' refl (within bytes le ∙ is) unopened)

-- both nodes were opened, and a run ended
pub said_ran : (ran : Result (Unit {0}) OutputFault) (bytes : List ℕ) (c d : KeeperState) → OpensBoth bytes c d → SaysOf (batch_result ran) bytes c d
said_ran (Ok u) bytes c d opens = opens
said_ran (Err output.Memory) bytes c d opens = tt
said_ran (Err output.Write) bytes c d opens = opens

pub ran_other : (ran : Result (Unit {0}) OutputFault) → batch_result ran ≡ Err fault.TooLong → ⊥
ran_other (Ok u) is = absurd (cc is)
ran_other (Err output.Memory) is = absurd (cc is)
ran_other (Err output.Write) is = absurd (cc is)

-- the input was not read to its end
pub says_unread : {A : Type 0} (e : BatchFault) (known left : Option (List ℕ)) (c d : KeeperState) → IsReadFault e → HasGiven {A = A} (Err e) known left
    → (bytes : List ℕ) × IsInput known bytes × SaysOf (Err e) bytes c d
says_unread fault.Read known left c d kind gave = let (bytes, all) = some_input known in (bytes, all, tt)
says_unread fault.Memory known left c d kind gave = let (bytes, all) = some_input known in (bytes, all, tt)
says_unread fault.TooLong known left c d kind (given, took, long) = let (bytes, all, more) = long_input known left given took (long.0 refl) in (bytes, all, too_long bytes more)
says_unread _ known left c d kind gave = absurd kind

-- a run that ends in a fault may have written
pub run_may_write : (P : Type 0) (ran : Result (Unit {0}) OutputFault) → IfErr (batch_result ran) (λ e. WritesNothing e → P)
run_may_write P (Ok _) = tt
run_may_write P (Err output.Memory) = λ none. absurd none
run_may_write P (Err output.Write) = λ none. absurd none

-- What a run whose lots workers serve writes of an input's text.
use Rattle.std.proofs.Common.{◌≡◌, ℕ, Bool, true, false, List, [], Option, Result, Ok, Err, refl, inl, inr}
use Rattle.std.specs.Prelude.{OnOk, if◌then◌else◌}
use Rattle.cns_batch.specs.declared.supply.Supply.{Supply}
use Rattle.cns_input.specs.Reading.{IsInput, IsReadFault}
use Rattle.cns_input.specs.declared.fault.BatchFault.{BatchFault}
use Rattle.cns_input.specs.declared.fault.BatchFault.TheVariants as fault
use Rattle.cns_batch.specs.Acts.{Gives}
use Rattle.cns_batch.specs.ByWorkers.{LeadsAtDesk, served_by_workers}
use Rattle.cns_batch.specs.Ending.{batch_result}
use Rattle.cns_batch.specs.Runs.{Continues, Place, Runs, Stops, leaves, output_at, text_said}
use Rattle.cns_batch.specs.Text.{Input, Tells, WritesByWorkers, WritesFront, WritesWhole, input_of, script_of}
use Rattle.cns_batch.specs.declared.fault.OutputFault.{OutputFault}
use Rattle.cns_batch.specs.declared.fault.OutputFault.TheVariants as output
use Rattle.cns_batch.proofs.DeskLemmas.{all_pass}
use Rattle.cns_batch.proofs.TextLemmas.{all_written, some_input, start}

whole : {N : Type 0} (shake : Option ℕ) (bytes : List ℕ) (input : Input) (left : Supply) (nodes : N) (sent : Option (List ℕ)) (q : Place N) → input_of bytes ≡ Ok input
    → Continues LeadsAtDesk (script_of served_by_workers shake input) (Gives left) (start input nodes sent) q → q.held ≡ [] → WritesWhole shake bytes sent q.sent
whole shake bytes input left nodes sent q is one none =
    let written = all_written (text_said one.said) (output_at (start input nodes sent)) (output_at q) one.writes none in
    (input, is, (one.said, left, one.follows, all_pass one.said nodes q.nodes one.led, written))

front : {N : Type 0} (shake : Option ℕ) (bytes : List ℕ) (input : Input) (nodes : N) (sent : Option (List ℕ)) (q : Place N) → input_of bytes ≡ Ok input
    → Stops LeadsAtDesk (script_of served_by_workers shake input) (start input nodes sent) q → WritesFront shake bytes sent q.sent
front shake bytes input nodes sent q is stop =
    (input, is, (stop.said, stop.left, stop.writes.0, stop.follows, all_pass stop.said nodes q.nodes stop.led, stop.writes.1))

-- a run ended
pub by_workers : {N : Type 0} (ran : Result (Unit {0}) OutputFault) (shake : Option ℕ) (bytes : List ℕ) (input : Input) (left : Supply) (nodes : N) (sent : Option (List ℕ)) (q : Place N) → input_of bytes ≡ Ok input
    → Runs LeadsAtDesk (script_of served_by_workers shake input) (leaves ran left) (start input nodes sent) q → OnOk ran (q.held ≡ []) → WritesByWorkers (batch_result ran) shake bytes sent q.sent
by_workers (Ok u) shake bytes input left nodes sent q is one none = whole shake bytes input left nodes sent q is one none
by_workers (Err output.Memory) shake bytes input left nodes sent q is stop none = inr (front shake bytes input nodes sent q is stop)
by_workers (Err output.Write) shake bytes input left nodes sent q is stop none = front shake bytes input nodes sent q is stop

-- ---- nothing was written

unread : (e : BatchFault) (shake : Option ℕ) (bytes : List ℕ) (sent : Option (List ℕ)) → IsReadFault e → WritesByWorkers (Err e) shake bytes sent sent
unread fault.Read shake bytes sent kind = refl
unread fault.Memory shake bytes sent kind = inl refl
unread fault.TooLong shake bytes sent kind = refl
unread _ shake bytes sent kind = absurd kind

pub workers_unread : (e : BatchFault) (shake : Option ℕ) (known sent : Option (List ℕ)) → IsReadFault e → (bytes : List ℕ) × IsInput known bytes × WritesByWorkers (Err e) shake bytes sent sent
workers_unread e shake known sent kind = let (bytes, all) = some_input known in (bytes, all, unread e shake bytes sent kind)

refused : (e : BatchFault) (shake : Option ℕ) (r : Result Input BatchFault) (bytes : List ℕ) (sent : Option (List ℕ)) → Tells e r → WritesByWorkers (Err e) shake bytes sent sent
refused fault.Read shake r bytes sent told = refl
refused fault.Sections shake r bytes sent told = refl
refused fault.Csv shake r bytes sent told = refl
refused fault.Memory shake r bytes sent told = inl refl
refused _ shake r bytes sent told = absurd told

unopened : (short : Bool) (shake : Option ℕ) (bytes : List ℕ) (sent : Option (List ℕ)) → WritesByWorkers (Err (if short then fault.Memory else fault.Journal)) shake bytes sent sent
unopened true shake bytes sent = inl refl
unopened false shake bytes sent = refl

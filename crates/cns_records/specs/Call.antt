-- What a call of a node comes to by what the node has, and what it leaves of the node (this project's own rules).
use Rattle.std.specs.Prelude.{◌≡◌, ◌⊎◌, Result, Ok, Err}
use Rattle.cns_journal.specs.declared.record_log.CommitFault.{CommitFault}

-- what a call that is not refused comes to: it answers this and changes nothing of the node; or it has this record committed, and answers this once that is
-- acknowledged
pub data Deed (R X : Type 0) : Type 0 where
  Tells : X → Deed R X
  Commits : R → X → Deed R X

-- what a call is answered whose record was to be committed, by what its commit came to
abbrev pub answered : {X E : Type 0} → (CommitFault → E) → X → Result (Unit {0}) CommitFault → Result X E
answered refusal x (Ok _) = Ok x
answered refusal x (Err fault) = Err (refusal fault)

-- what a call leaves of a node, by what it comes to and what the commit of a record leaves
abbrev pub CallLeaves : {R X E N : Type 0} → (CommitFault → E) → (R → Result (Unit {0}) CommitFault → N → N → Type 0) → Result (Deed R X) E → Result X E → N → N → Type 0
CallLeaves refusal Commit (Err e) result old new = (result ≡ Err e) × (new ≡ old)
CallLeaves refusal Commit (Ok (Tells x)) result old new = (result ≡ Ok x) × (new ≡ old)
CallLeaves refusal Commit (Ok (Commits r x)) result old new = (done : Result (Unit {0}) CommitFault) × (result ≡ answered refusal x done) × Commit r done old new

-- what a call leaves that commits no record, by what it comes to: a refusal leaves all as it was, and else this is left
abbrev pub Changes : {X E N : Type 0} → Result (X × N) E → Result X E → N → N → Type 0
Changes (Err e) result old new = (result ≡ Err e) × (new ≡ old)
Changes (Ok (x, n)) result old new = (result ≡ Ok x) × (new ≡ n)

-- the same of a call that needs memory, and is refused so where there is none
abbrev pub Grows : {X E N : Type 0} → E → Result (X × N) E → Result X E → N → N → Type 0
Grows short (Err e) result old new = (result ≡ Err e) × (new ≡ old)
Grows short (Ok (x, n)) result old new = ((result ≡ Ok x) × (new ≡ n)) ⊎ ((result ≡ Err short) × (new ≡ old))

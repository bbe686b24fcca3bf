-- What contracts see of a keeper over a copy of a journal's file, and what exactly its reopening leaves (this project's own rules).
use Rattle.std.specs.Prelude.{◌≡◌, ℕ, false, List, length, None, Result, Ok, Err}
use Rattle.cns_journal.specs.Keeper.{Running, Journal}
use Rattle.cns_journal.specs.Layout.{journal_of}
use Rattle.cns_journal.specs.declared.keeper.KeepFault.{KeepFault}
use Rattle.cns_journal.specs.declared.keeper.KeepFault.TheVariants.{Memory, Down, Device}

-- the bytes of the file, and how many records the last reopening gave, none before the first
pub record CopyState : Type 0 where
  pub file : List ℕ
  pub count : ℕ

-- what every keeper shows of this one: it is up, and its device has never failed
abbrev pub copy_running : CopyState → Running
copy_running copy = record { down = false; failures = 0; count = copy.count }

-- it keeps the records of the file
abbrev pub kept_by : CopyState → Journal
kept_by copy = record { kept = journal_of copy.file; undecided = None }

-- what a reopening leaves, by its answer: it gives the records of the file, and is refused only for want of memory
abbrev pub CopyReopen : Result (List (List ℕ)) KeepFault → CopyState → CopyState → Type 0
CopyReopen (Ok given) old new = (given ≡ journal_of old.file) × (new ≡ record old { count = length given })
CopyReopen (Err Memory) old new = new ≡ old
CopyReopen (Err Down) old new = ⊥
CopyReopen (Err Device) old new = ⊥

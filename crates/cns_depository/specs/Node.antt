-- What contracts see of a depository (this project's own rules).
use Rattle.std.specs.Prelude.{◌≡◌, ℕ, Bool, false, List, Result, Err}
use Rattle.cns_journal.specs.Keeper.{KeeperState}
use Rattle.cns_journal.specs.Replay.{Reread}
use Rattle.cns_journal.specs.RecordLog.{IsLawfulLog, LogCommits, LogPlanned, LogRestarts, LogState}
use Rattle.cns_journal.specs.RecordLog as log
use Rattle.cns_journal.specs.declared.keeper.NotPlanned.{NotPlanned}
use Rattle.cns_journal.specs.declared.record_log.CommitFault.{CommitFault}
use Rattle.cns_journal.specs.declared.record_log.ReplayFault.{ReplayFault}
use Rattle.cns_journal.specs.declared.record_log.Restarted.{Restarted}
use Rattle.cns_records.specs.declared.dep_record.DepRecord.{DepRecord}
use Rattle.cns_records.specs.Dep.{dep_spelling, HasDepPayload}
use Rattle.cns_trades.specs.declared.opening.Opening.{Opening}
use Rattle.cns_depository.specs.Stock.{IsExecutable}

-- the opening balances, and the log of the records
pub record DepNode : Type 0 where
  pub openings : List Opening
  pub log : LogState DepRecord

-- each record may stand after those before it
abbrev pub IsNode : DepNode → Type 0
IsNode node = IsLawfulLog (IsExecutable node.openings) node.log

-- what the commit of a record leaves, by its answer
abbrev pub IsCommitted : DepRecord → Result (Unit {0}) CommitFault → DepNode → DepNode → Type 0
IsCommitted r result old new = (old.log.down ≡ false) × LogCommits r result old.log new.log × (new.openings ≡ old.openings)

-- what a plan leaves, by its answer
abbrev pub NodePlanned : Bool → Result (Unit {0}) NotPlanned → DepNode → DepNode → Type 0
NodePlanned stands result old new = LogPlanned stands result old.log new.log × (new.openings ≡ old.openings)

-- what a restart leaves, by its answer
abbrev pub RestartLeaves : Result Restarted ReplayFault → DepNode → DepNode → Type 0
RestartLeaves result old new =
    LogRestarts dep_spelling (IsExecutable old.openings) HasDepPayload result old.log new.log × (new.openings ≡ old.openings)

-- what an opening gives: a node that is up, with the records that its keeper gave
abbrev pub IsOpened : List Opening → KeeperState → DepNode → Type 0
IsOpened openings keeper node = log.IsOpened dep_spelling (IsExecutable openings) HasDepPayload keeper node.log × (node.openings ≡ openings)

-- what a refused opening leaves of the keeper; where a payload is bad, these are all that were given
abbrev pub IsUnread : List Opening → ReplayFault → List (List ℕ) → KeeperState → KeeperState → Type 0
IsUnread openings fault rejected old new = Reread dep_spelling (IsExecutable openings) HasDepPayload (Err fault) rejected old new

-- What contracts see of a clearing node (this project's own rules).
use Rattle.std.specs.Prelude.{◌≡◌, ℕ, Bool, false, List, [], Result, Ok, Err}
use Rattle.cns_journal.specs.Keeper.{KeeperState}
use Rattle.cns_journal.specs.Replay.{Reread}
use Rattle.cns_journal.specs.RecordLog.{IsLawfulLog, LogCommits, LogPlanned, LogRestarts, LogState}
use Rattle.cns_journal.specs.RecordLog as log
use Rattle.cns_journal.specs.declared.keeper.NotPlanned.{NotPlanned}
use Rattle.cns_journal.specs.declared.record_log.CommitFault.{CommitFault}
use Rattle.cns_journal.specs.declared.record_log.CommitFault.TheVariants as commit
use Rattle.cns_journal.specs.declared.record_log.ReplayFault.{ReplayFault}
use Rattle.cns_journal.specs.declared.record_log.Restarted.{Restarted}
use Rattle.cns_records.specs.Clear.{spelling, HasPayload, AreWritable}
use Rattle.cns_records.specs.declared.clear_record.ClearRecord.{ClearRecord}
use Rattle.cns_clearing.specs.Books.{Books, books_of, IsAllowed}
use Rattle.cns_clearing.specs.Lots.{AreLots, lots_after, lots_restarted}
use Rattle.cns_clearing.specs.declared.lot.Lot.{Lot}

-- the log of the records, and the open lots
pub record ClearNode : Type 0 where
  pub log : LogState ClearRecord
  pub lots : List Lot

-- the books are those of the records, each of which may stand after those before it and has a payload; and the lots are as the
-- records have them
pub record IsNode (books : Books) (node : ClearNode) : Type 0 where
  pub books_are : books ≡ books_of node.log.records
  pub log : IsLawfulLog IsAllowed node.log
  pub fits : AreWritable node.log.records
  pub lots : AreLots node.log.records node.lots

-- a node whose record was acknowledged, and one whose commit failed at the device
abbrev pub Added : ClearRecord → ClearNode → ClearNode → Type 0
Added r old new = (old.log.down ≡ false) × LogCommits r (Ok tt) old.log new.log × (new.lots ≡ lots_after r old.lots)

abbrev pub Failed : ClearRecord → ClearNode → ClearNode → Type 0
Failed r old new = (old.log.down ≡ false) × LogCommits r (Err commit.Device) old.log new.log × (new.lots ≡ old.lots)

-- what the commit of a record leaves of a node, by its answer
abbrev pub IsCommitted : {X : Type 0} → ClearRecord → Result X CommitFault → ClearNode → ClearNode → Type 0
IsCommitted r (Ok _) old new = Added r old new
IsCommitted r (Err commit.OutOfMemory) old new = new ≡ old
IsCommitted r (Err commit.Device) old new = Failed r old new

-- what a plan leaves, by its answer
abbrev pub NodePlanned : Bool → Result (Unit {0}) NotPlanned → ClearNode → ClearNode → Type 0
NodePlanned stands result old new = LogPlanned stands result old.log new.log × (new.lots ≡ old.lots)

-- what a restart leaves, by its answer
abbrev pub RestartLeaves : Result Restarted ReplayFault → ClearNode → ClearNode → Type 0
RestartLeaves result old new = LogRestarts spelling IsAllowed HasPayload result old.log new.log × (new.lots ≡ lots_restarted old.lots)

-- what an opening gives: a node that is up, with the records that its keeper gave
abbrev pub IsOpened : KeeperState → ClearNode → Type 0
IsOpened keeper node = log.IsOpened spelling IsAllowed HasPayload keeper node.log × (node.lots ≡ [])

-- what a refused opening leaves of the keeper; where a payload is bad, these are all that were given
abbrev pub IsUnread : ReplayFault → List (List ℕ) → KeeperState → KeeperState → Type 0
IsUnread fault rejected old new = Reread spelling IsAllowed HasPayload (Err fault) rejected old new

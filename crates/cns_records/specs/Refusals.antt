-- The refusal of a call whose record was not added, and of a restart that did not succeed.
use Rattle.cns_journal.specs.declared.record_log.CommitFault.{CommitFault}
use Rattle.cns_journal.specs.declared.record_log.CommitFault.TheVariants as commit
use Rattle.cns_journal.specs.declared.record_log.ReplayFault.{ReplayFault}
use Rattle.cns_journal.specs.declared.record_log.ReplayFault.TheVariants as replay
use Rattle.cns_records.specs.declared.refusal.Refusal.{Refusal}
use Rattle.cns_records.specs.declared.refusal.Refusal.TheVariants.{BadJournal, OutOfMemory, Device}

abbrev pub commit_refusal : CommitFault → Refusal
commit_refusal commit.OutOfMemory = OutOfMemory
commit_refusal commit.Device = Device

abbrev pub replay_refusal : ReplayFault → Refusal
replay_refusal replay.OutOfMemory = OutOfMemory
replay_refusal (replay.BadJournal place) = BadJournal place
replay_refusal replay.Device = Device

-- What an event leaves of the devices of both keepers, and of the journals that were found bad (this project's own rule).
use Rattle.std.specs.Prelude.{◌≡◌, ℕ, List, [], Result, Ok}
use Rattle.cns_journal.specs.Keeper.{HasRisen, Unforeseen}
use Rattle.cns_journal.specs.Replay.{AreAllowed, IsBadPlace}
use Rattle.cns_journal.specs.RecordLog.{LogState}
use Rattle.cns_records.specs.Clear.{spelling, HasPayload}
use Rattle.cns_records.specs.Dep.{dep_spelling, HasDepPayload}
use Rattle.cns_records.specs.declared.refusal.Refusal.{Refusal}
use Rattle.cns_records.specs.declared.refusal.Refusal.TheVariants as refusal
use Rattle.cns_clearing.specs.Books.{IsAllowed}
use Rattle.cns_depository.specs.Stock.{IsExecutable}
use Rattle.cns_system.specs.Happens.{Change, Commits, Restarts}
use Rattle.cns_system.specs.World.{World}
use Rattle.cns_system.specs.declared.event.Event.{Event}
use Rattle.cns_system.specs.declared.event.Event.TheVariants as event
use Rattle.cns_system.specs.declared.event.NodeName.{NodeName}
use Rattle.cns_system.specs.declared.event.NodeName.TheVariants as node
use Rattle.cns_system.specs.declared.outcome.Outcome.{Outcome}
use Rattle.cns_system.specs.declared.outcome.Outcome.TheVariants as outcomes

-- the node of an event: where it commits a record or is a restart, the keeper that it calls is this node's; no other event calls one
abbrev pub node_of : Event → NodeName
node_of (event.OrderIn packet) = node.Depot
node_of (event.Own i) = node.Depot
node_of (event.Restart name) = name
node_of _ = node.Clear

-- how often a keeper's device failed, and the payloads of a journal that was found bad, stay
pub record IsUntouched {R : Type 0} (old new : LogState R) : Type 0 where
  pub failures : new.failures ≡ old.failures
  pub rejected : new.rejected ≡ old.rejected

-- at a commit `Device` tells that the device has failed
abbrev pub DeviceAtCommit : {R : Type 0} → Outcome → LogState R → LogState R → Type 0
DeviceAtCommit (outcomes.Refused refusal.Device) old new = HasRisen old.failures new.failures × (new.rejected ≡ old.rejected)
DeviceAtCommit _ old new = IsUntouched old new

-- at a restart it does so, too, and only of a keeper of which nothing is known beforehand; `BadJournal` tells of a journal whose payload in this place
-- is the first that is bad, and whose payloads are kept until a restart succeeds; where it does, each record may stand after those before it, whatever
-- keeper gave them
abbrev pub DeviceAtRestart : {R : Type 0} → (R → List ℕ) → (List R → R → Type 0) → (R → Type 0) → Outcome → LogState R → LogState R → Type 0
DeviceAtRestart spelling allows fits (outcomes.Refused refusal.Device) old new =
    HasRisen old.failures new.failures × (new.rejected ≡ old.rejected) × (old.foresight.next ≡ Unforeseen)
DeviceAtRestart spelling allows fits (outcomes.Refused (refusal.BadJournal place)) old new = (new.failures ≡ old.failures) × IsBadPlace spelling allows fits new.rejected place
DeviceAtRestart spelling allows fits (outcomes.Restarted records kept) old new =
    (new.failures ≡ old.failures) × (new.rejected ≡ []) × AreAllowed allows new.records
DeviceAtRestart spelling allows fits _ old new = IsUntouched old new

-- the keepers of both nodes are untouched
pub record AreUntouched (old new : World) : Type 0 where
  pub clear : IsUntouched old.clear.clear.log new.clear.clear.log
  pub depot : IsUntouched old.depot.log new.depot.log

-- so it is at the node whose record is committed, or which restarts, and the other node's keeper is not called; no other event calls one
abbrev pub DevicesLeave : Result Change Refusal → NodeName → Outcome → World → World → Type 0
DevicesLeave (Ok (Commits told left failed)) node.Clear outcome old new =
    DeviceAtCommit outcome old.clear.clear.log new.clear.clear.log × IsUntouched old.depot.log new.depot.log
DevicesLeave (Ok (Commits told left failed)) node.Depot outcome old new =
    DeviceAtCommit outcome old.depot.log new.depot.log × IsUntouched old.clear.clear.log new.clear.clear.log
DevicesLeave (Ok (Restarts node.Clear)) name outcome old new =
    DeviceAtRestart spelling IsAllowed HasPayload outcome old.clear.clear.log new.clear.clear.log × IsUntouched old.depot.log new.depot.log
DevicesLeave (Ok (Restarts node.Depot)) name outcome old new =
    DeviceAtRestart dep_spelling (IsExecutable old.depot.openings) HasDepPayload outcome old.depot.log new.depot.log × IsUntouched old.clear.clear.log new.clear.clear.log
DevicesLeave _ name outcome old new = AreUntouched old new

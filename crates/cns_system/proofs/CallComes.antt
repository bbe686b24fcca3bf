-- What the call of a node leaves is what an event comes to.
use Rattle.std.proofs.Common.{◌≡◌, List, Result, Ok, Err, refl, ap}
use Rattle.cns_ids.specs.Steps.{◌>>=◌}
use Rattle.cns_journal.specs.RecordLog.{LogShown, LogState, log_shown}
use Rattle.cns_journal.specs.declared.record_log.CommitFault.{CommitFault}
use Rattle.cns_journal.specs.declared.record_log.CommitFault.TheVariants as commit
use Rattle.cns_records.specs.Call.{CallLeaves, Deed, answered}
use Rattle.cns_records.specs.Call as call
use Rattle.cns_records.specs.Refusals.{commit_refusal}
use Rattle.cns_records.specs.declared.clear_record.ClearRecord.{ClearRecord}
use Rattle.cns_records.specs.declared.refusal.Refusal.{Refusal}
use Rattle.cns_records.specs.declared.refusal.Refusal.TheVariants as refusal
use Rattle.cns_clearing.specs.Answers.{NodeLeaves}
use Rattle.cns_system.specs.Devices.{DeviceAtCommit, IsUntouched, node_of}
use Rattle.cns_system.specs.Happens.{by_clear, clear_deed, judged, outcome_of}
use Rattle.cns_system.specs.Lot.{LotState}
use Rattle.cns_system.specs.Numbered.{IsNumberedCommit, NumberedNode}
use Rattle.cns_system.specs.Scene.{Comes, KeeperKnowledge, scene_of, knowledge_of}
use Rattle.cns_system.specs.Shown.{clear_failed, shown_of}
use Rattle.cns_system.specs.World.{World}
use Rattle.cns_system.specs.declared.event.Event.{Event}
use Rattle.cns_system.specs.declared.event.NodeName.TheVariants as node
use Rattle.cns_system.specs.declared.outcome.Outcome.{Outcome}
use Rattle.cns_system.specs.declared.outcome.Outcome.TheVariants as outcomes
use Rattle.cns_system.proofs.ComesLemmas.{IsByCommit, by_same, commits, fails, not_committed, refused, tells, untouched_refl}

-- an outcome of what was done
abbrev pub IsTold : Outcome → Type 0
IsTold outcome = elim outcome [ outcomes.Refused r ↦ ⊥ | _ ↦ Unit {0} ]

pub told_leaves : {R : Type 0} (outcome : Outcome) → IsTold outcome → (old new : LogState R) → IsUntouched old new → DeviceAtCommit outcome old new
told_leaves (outcomes.Refused r) told old new same = absurd told
told_leaves _ told old new same = same

-- ---- the clearing node

-- a call of the clearing node leaves the depository and the link
module _ {X : Type 0} (e : Event) (told : X → Outcome) (lots_after : List LotState → List LotState) (old : World) (n : NumberedNode) (by_commit : IsByCommit e old)
    (node_is : node_of e ≡ node.Clear) (quiet : (x : X) → IsTold (told x)) where
  abbrev new : World
  new = record old { clear = n }

  committed : (r : ClearRecord) (x : X) (done : Result (Unit {0}) CommitFault) → judged e (shown_of old) ≡ Ok (clear_deed told lots_after (shown_of old) (call.Commits r x))
      → IsNumberedCommit lots_after r done old.clear n → Comes e (outcome_of told (answered commit_refusal x done)) old new
  committed r x (Ok u) is ((up, (log, may), open_lots), lots) =
      commits e old new by_commit (told x) _ (clear_failed r (shown_of old)) is (rw (log, open_lots, lots) refl) (rw node_is may) (ap knowledge_of log) refl
      (rw node_is (told_leaves (told x) (quiet x) old.clear.clear.log n.clear.log (record { failures = rw log refl; rejected = rw log refl }), untouched_refl old.depot.log))
  committed r x (Err commit.OutOfMemory) is (same, lots) =
      by_same e (outcomes.Refused refusal.OutOfMemory) old new (rw (same, lots) refl) (not_committed e old by_commit (told x) _ _ is)
  committed r x (Err commit.Device) is ((up, (log, risen, failed), open_lots), lots) =
      let shown : shown_of new ≡ clear_failed r (shown_of old) = rw (open_lots, lots) (ap (λ (l : LogShown ClearRecord). record (shown_of old) { clear = l }) (ap log_shown log)) in
      fails e old new by_commit (told x) _ (clear_failed r (shown_of old)) n.clear.log.foresight is shown (rw node_is failed)
      (rw node_is (ap (λ (s : KeeperKnowledge). record (scene_of new) { clear = s }) (ap knowledge_of log)))
      (rw node_is ((risen, ap (λ (l : LogState ClearRecord). l.rejected) log), untouched_refl old.depot.log))

  pub clear_comes : (deed : Result (Deed ClearRecord X) Refusal) (result : Result X Refusal) → judged e (shown_of old) ≡ (deed >>= λ d. Ok (clear_deed told lots_after (shown_of old) d))
      → CallLeaves commit_refusal (IsNumberedCommit lots_after) deed result old.clear n → Comes e (outcome_of told result) old new
  clear_comes (Err r) result is (answer, same) = rw (answer, same) (refused e old r is)
  clear_comes (Ok (call.Tells x)) result is (answer, same) = rw (answer, same) (tells e old old (told x) (shown_of old) is refl refl refl)
  clear_comes (Ok (call.Commits r x)) result is (done, answer, left) = rw answer (committed r x done is left)

-- one of the node alone leaves the lots by number
pub node_comes : {X : Type 0} (e : Event) (told : X → Outcome) (deed : Result (Deed ClearRecord X) Refusal) (result : Result X Refusal) (old : World) (n : NumberedNode) → IsByCommit e old
    → node_of e ≡ node.Clear → ((x : X) → IsTold (told x)) → judged e (shown_of old) ≡ by_clear told (shown_of old) deed → n.lots ≡ old.clear.lots
    → NodeLeaves deed result old.clear.clear n.clear → Comes e (outcome_of told result) old (record old { clear = n })
node_comes {X} e told deed result old n by_commit node_is quiet is lots left =
    clear_comes e told (λ ls. ls) old n by_commit node_is quiet deed result is (by deed left)
  where
    by : (deed : Result (Deed ClearRecord X) Refusal) → NodeLeaves deed result old.clear.clear n.clear → CallLeaves commit_refusal (IsNumberedCommit (λ ls. ls)) deed result old.clear n
    by (Err r) (answer, same) = (answer, rw (same, lots) refl)
    by (Ok (call.Tells x)) (answer, same) = (answer, rw (same, lots) refl)
    by (Ok (call.Commits r x)) (Ok u, answer, left) = (Ok u, answer, (left, lots))
    by (Ok (call.Commits r x)) (Err fault, answer, left) = (Err fault, answer, (left, lots))

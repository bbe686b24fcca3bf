-- Nodes that are opened over empty journals have no records, and these are never bad.
use Rattle.std.proofs.Common.{◌≡◌, ℕ, List, [], ◌∷◌, true, false, None, Err, ◌∙◌, map, reverse, refl, sym, ap, inl, inr, length, length-append, arith}
use Rattle.std.proofs.lemmas.List.{length-map, length-reverse, nil_from_length}
use Rattle.std.proofs.lemmas.List.Elements.{All-nil}
use Rattle.std.proofs.lemmas.Option.{none-some}
use Rattle.cns_journal.specs.Keeper.{IsReopened, Succeeds, KeeperState}
use Rattle.cns_journal.specs.RecordLog.{IsOpened, LogState}
use Rattle.cns_journal.specs.Replay.{Reread}
use Rattle.cns_journal.specs.declared.record_log.ReplayFault.TheVariants as replay
use Rattle.cns_records.specs.Clear.{spelling, HasPayload}
use Rattle.cns_records.specs.Dep.{dep_spelling, HasDepPayload}
use Rattle.cns_trades.specs.declared.opening.Opening.{Opening}
use Rattle.cns_clearing.specs.Books.{IsAllowed, books_of, order_book_of}
use Rattle.cns_depository.specs.Stock.{IsExecutable}
use Rattle.cns_system.specs.Agreement.{Agree, IsExecuted, IsOrdered}
use Rattle.cns_system.specs.Scene.{scene_of}
use Rattle.cns_system.specs.Start.{IsStarted}
use Rattle.cns_system.specs.World.{World}
use Rattle.cns_system.specs.declared.fault.StartFault.TheVariants as start
use Rattle.cns_batch.specs.Text.{Input, IsUnopened, first_scene, new_keeper}

nothing_given : (given : List (List ℕ)) → IsReopened (record { kept = []; undecided = None }) given → given ≡ []
nothing_given given (inl e) = e
nothing_given given (inr more) = absurd (none-some more.0 more.1)

-- ---- both nodes at the start

-- a log that is opened over an empty journal has no records, and what was known of its keeper is known still
abbrev first_log : {R : Type 0} → LogState R
first_log = record { records = []; tried = None; down = false; rejected = []; failures = 0; honest = true; foresight = record { next = Succeeds; stands = None } }

first : {R : Type 0} (spelling : R → List ℕ) (allows : List R → R → Type 0) (fits : R → Type 0) (log : LogState R) → IsOpened spelling allows fits new_keeper log → log ≡ first_log
first {R} spelling allows fits log opened =
    let given : map spelling (reverse log.records) ≡ [] = nothing_given _ (opened.given refl) in
    let none : log.records ≡ [] = nil_from_length log.records (omega (arith, length-reverse log.records, length-map (reverse log.records) spelling, ap length given)) in
    opened.value ∙ ap (λ (rs : List R). record first_log { records = rs }) none

pub started_first : (openings : List Opening) (w : World) → IsStarted openings new_keeper new_keeper w → scene_of w ≡ first_scene openings
started_first openings w started =
    rw (
      first spelling IsAllowed HasPayload w.clear.clear.log started.clear_opens.0,
      started.clear_opens.1,
      started.lots,
      first dep_spelling (IsExecutable openings) HasDepPayload w.depot.log started.depot_opens.0,
      started.depot_opens.1,
      started.order_packets,
      started.reply_packets,
    ) refl

-- ---- no opening is refused but for want of memory

-- a journal without payloads is not bad
no_bad_place : {R : Type 0} (spelling : R → List ℕ) (allows : List R → R → Type 0) (fits : R → Type 0) (rejected : List (List ℕ)) (new : KeeperState) (place : ℕ)
    → Reread spelling allows fits (Err (replay.BadJournal place)) rejected new_keeper new → ⊥
no_bad_place spelling allows fits rejected new place (reopened, bad) =
    omega (arith, length-append (map spelling bad.before) (bad.payload ∷ bad.after), ap length (sym bad.given_is ∙ nothing_given rejected (reopened.keeps refl).0))

nothing_agrees : Agree [] []
unfolding books_of
nothing_agrees = record { executed = All-nil (IsOrdered (order_book_of []).orders); confirmed = All-nil (IsExecuted []) }

pub none_unopened : (input : Input) (clear depot : KeeperState) → IsUnopened false input new_keeper new_keeper clear depot → ⊥
none_unopened input clear depot (start.Clear (replay.BadJournal place), rejected, long, (unread, same)) = no_bad_place spelling IsAllowed HasPayload rejected clear place unread
none_unopened input clear depot (start.Clear replay.OutOfMemory, rejected, long, why) = absurd (cc long)
none_unopened input clear depot (start.Clear replay.Device, rejected, long, (reopened, same)) = absurd (cc reopened.foreseen.0)
none_unopened input clear depot (start.Depot (replay.BadJournal place), rejected, long, (returned, unread)) =
    no_bad_place dep_spelling (IsExecutable input.openings) HasDepPayload rejected depot place unread
none_unopened input clear depot (start.Depot replay.OutOfMemory, rejected, long, why) = absurd (cc long)
none_unopened input clear depot (start.Depot replay.Device, rejected, long, (returned, reopened)) = absurd (cc reopened.foreseen.0)
none_unopened input clear depot (start.Disagree, rejected, long, (c, opened, (p, stocked, differs))) =
    differs (rw (first spelling IsAllowed HasPayload c.log opened.0.0, first dep_spelling (IsExecutable input.openings) HasDepPayload p.log stocked.0.0) nothing_agrees)

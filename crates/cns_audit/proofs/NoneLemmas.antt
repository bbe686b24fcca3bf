-- With no openings the nodes are opened, where they are not with the least ones.
use Rattle.std.proofs.Common.{◌≡◌, inl, inr, ℕ, false, List, refl, sym, ap, ◌∙◌, subst}
use Rattle.std.specs.Prelude.{map, reverse}
use Rattle.std.proofs.lemmas.List.{reverse-reverse}
use Rattle.cns_journal.specs.Keeper.{IsReopened, KeeperState}
use Rattle.cns_journal.specs.Layout.{journal_of}
use Rattle.cns_journal.specs.Replay.{AreAllowed, AreFit, AreReplayed}
use Rattle.cns_journal.specs.declared.record_log.ReplayFault.TheVariants as replay
use Rattle.cns_journal.proofs.LogLemmas.{never_bad, same_records}
use Rattle.cns_file.specs.Copy.{kept_by}
use Rattle.cns_records.specs.Clear.{HasPayload, spelling}
use Rattle.cns_records.specs.Dep.{HasDepPayload, dep_spelling}
use Rattle.cns_records.specs.declared.clear_record.ClearRecord.{ClearRecord}
use Rattle.cns_records.specs.declared.dep_record.DepRecord.{DepRecord}
use Rattle.cns_records.proofs.ClearLaws.{spelling_injective}
use Rattle.cns_records.proofs.DepLaws.{dep_spelling_injective}
use Rattle.cns_trades.specs.declared.opening.Opening.{Opening}
use Rattle.cns_clearing.specs.Books.{IsAllowed}
use Rattle.cns_depository.specs.Openings.{DoIssuesFit}
use Rattle.cns_depository.specs.Ranges.{AreEnough, AreOpeningsOf}
use Rattle.cns_depository.specs.Stock.{IsExecutable, IsLawfulDepot}
use Rattle.cns_depository.proofs.LeastLemmas.{enough_lawful}
use Rattle.cns_system.specs.Agreement.{Agree}
use Rattle.cns_system.specs.Start.{IsNotOpened, IsStarted}
use Rattle.cns_system.specs.World.{World}
use Rattle.cns_system.specs.declared.fault.StartFault.{StartFault}
use Rattle.cns_system.specs.declared.fault.StartFault.TheVariants as start
use Rattle.cns_audit.specs.Least.{HasRecords}
use Rattle.cns_audit.specs.Opened.{CannotOpen, copy_of, unread, wants_memory}

-- a copy of a journal's file gives just its records
given_is : (file : List ℕ) (given : List (List ℕ)) → IsReopened (kept_by (unread file)) given → given ≡ journal_of file
given_is file given (inl same) = same
given_is file given (inr more) = absurd cc

-- the records of two openings of one file are the same
same_opened : {R : Type 0} (spelling : R → List ℕ) (allows : List R → R → Type 0) (fits : R → Type 0)
    (injective : (a b : R) → fits a → fits b → spelling a ≡ spelling b → a ≡ b) (file : List ℕ) (xs ys : List R) → AreFit fits (reverse xs) → AreFit fits (reverse ys)
    → map spelling (reverse xs) ≡ journal_of file → map spelling (reverse ys) ≡ journal_of file → xs ≡ ys
same_opened spelling allows fits injective file xs ys fit_xs fit_ys of_xs of_ys =
    sym (reverse-reverse xs) ∙ ap reverse (same_records spelling allows fits injective (reverse xs) (reverse ys) fit_xs fit_ys (of_xs ∙ sym of_ys)) ∙ reverse-reverse ys

-- records that are allowed have no bad place in their file
none_bad : {R : Type 0} (spelling : R → List ℕ) (allows : List R → R → Type 0) (fits : R → Type 0) (xs : List R) → AreAllowed allows xs → AreFit fits (reverse xs)
    → AreReplayed allows fits (reverse xs)
none_bad spelling allows fits xs allowed fit = record { allowed = subst (AreAllowed allows) (sym (reverse-reverse xs)) allowed; all_fit = fit }

module _ (openings others : List Opening) (clear depot : List ℕ) (w : World) (started : IsStarted others (copy_of clear) (copy_of depot) w) where
  abbrev c : List ClearRecord
  c = w.clear.clear.log.records

  abbrev p : List DepRecord
  p = w.depot.log.records

  -- the records of the file
  pub records_are : HasRecords depot p
  records_are = record { fit = started.depot_opens.0.fit; spelled = given_is depot _ (started.depot_opens.0.given refl) }

  clear_are : map spelling (reverse c) ≡ journal_of clear
  clear_are = given_is clear _ (started.clear_opens.0.given refl)

  pub openings_of : DoIssuesFit others → AreOpeningsOf others p
  openings_of fit = record { fit = fit; lawful = started.depot_opens.0.allowed }

  module _ (enough : AreEnough openings others p) where
    lawful : IsLawfulDepot openings p
    lawful = enough_lawful openings others p enough started.depot_opens.0.allowed

    refuses_none : (fault : StartFault) (rejected : List (List ℕ)) (clear' depot' : KeeperState) → IsNotOpened openings fault rejected (copy_of clear) (copy_of depot) clear' depot'
        → wants_memory fault ≡ false → ⊥
    refuses_none (start.Clear replay.OutOfMemory) rejected clear' depot' why is = absurd cc
    refuses_none (start.Clear replay.Device) rejected clear' depot' why is = absurd cc
    refuses_none (start.Clear (replay.BadJournal place)) rejected clear' depot' (not_read, same) is =
        never_bad spelling IsAllowed HasPayload spelling_injective (reverse c) rejected place (none_bad spelling IsAllowed HasPayload c started.clear_opens.0.allowed started.clear_opens.0.fit)
        (given_is clear rejected (not_read.0.keeps refl).0 ∙ sym clear_are) not_read.1
    refuses_none (start.Depot replay.OutOfMemory) rejected clear' depot' why is = absurd cc
    refuses_none (start.Depot replay.Device) rejected clear' depot' why is = absurd cc
    refuses_none (start.Depot (replay.BadJournal place)) rejected clear' depot' (opened, not_read) is =
        never_bad dep_spelling (IsExecutable openings) HasDepPayload dep_spelling_injective (reverse p) rejected place (none_bad dep_spelling (IsExecutable openings) HasDepPayload p lawful started.depot_opens.0.fit)
        (given_is depot rejected (not_read.0.keeps refl).0 ∙ sym records_are.spelled) not_read.1
    refuses_none start.Disagree rejected clear' depot' (other_c, opened, (other_p, stocked, differs)) is =
        let same_c : other_c.log.records ≡ c =
        same_opened spelling IsAllowed HasPayload spelling_injective clear other_c.log.records c opened.0.0.fit started.clear_opens.0.fit (given_is clear _ (opened.0.0.given refl)) clear_are in
        let same_p : other_p.log.records ≡ p =
        same_opened dep_spelling (IsExecutable openings) HasDepPayload dep_spelling_injective depot other_p.log.records p stocked.0.0.fit started.depot_opens.0.fit
        (given_is depot _ (stocked.0.0.given refl)) records_are.spelled in
        differs (subst (λ (x : List ClearRecord). Agree x other_p.log.records) (sym same_c) (subst (λ (x : List DepRecord). Agree c x) (sym same_p) started.agree))

    pub none_refused : CannotOpen openings clear depot → ⊥
    none_refused (fault, rejected, clear', depot', why, is) = refuses_none fault rejected clear' depot' why is

-- What a check of both journals finds (this project's own rules).
use Rattle.std.specs.Prelude.{◌≡◌, ◌⊎◌, ℕ, ◌<◌, Bool, ◌||◌, true, false, List, None, Some}
use Rattle.cns_trades.specs.declared.opening.Opening.{Opening}
use Rattle.cns_journal.specs.Tail.{behind_records}
use Rattle.cns_file.specs.Tail.{tail_kind}
use Rattle.cns_file.specs.declared.tail.Tail.{Tail}
use Rattle.cns_file.specs.declared.tail.Tail.TheVariants.{Nothing, Crash, Damage}
use Rattle.cns_records.specs.declared.dep_record.DepRecord.{DepRecord}
use Rattle.cns_depository.specs.Ranges.{AreEnough, AreOpeningsOf, standing}
use Rattle.cns_depository.specs.RangesOf.{AreRangesOf}
use Rattle.cns_depository.specs.declared.ranges.OpeningRanges.{OpeningRanges}
use Rattle.cns_system.specs.Start.{IsStarted}
use Rattle.cns_system.specs.World.{World}
use Rattle.cns_audit.specs.Opened.{CannotOpen, copy_of}
use Rattle.cns_audit.specs.Rows.{openings_taken}
use Rattle.cns_audit.specs.declared.check.Asked.{Asked}
use Rattle.cns_audit.specs.declared.journal.Journals.{Journals}
use Rattle.cns_audit.specs.declared.opened.Opened.{Opened}
use Rattle.cns_audit.specs.declared.opened.Opened.TheVariants.{Agreed, Refused}

-- damage follows the last record of a file
abbrev pub is_damage : Tail → Bool
is_damage = elim [ Nothing ↦ false | Crash ↦ false | Damage ↦ true ]

abbrev pub is_damaged : List ℕ → Bool
is_damaged file = is_damage (tail_kind (behind_records file))

abbrev pub are_damaged : Journals → Bool
are_damaged journals = is_damaged journals.clear.now || is_damaged journals.depot.now

-- the nodes could not be opened, or do not agree
abbrev pub is_refused : Opened → Bool
is_refused (Agreed system) = false
is_refused (Refused _ _) = true

-- a fault was told, where there is one to tell; else as many as before
abbrev pub TellsFault : Bool → ℕ → ℕ → Type 0
TellsFault true old new = 0 < new
TellsFault false old new = new ≡ old

-- these are the openings that are asked for: those of the rows that stand, or any where none are asked for
abbrev pub AreAsked : Asked → List Opening → Type 0
AreAsked asked openings = elim asked.openings [ None ↦ Unit {0} | Some rows ↦ openings ≡ (openings_taken rows.now).0 ]

-- a row of the openings that are asked for falls out
abbrev pub has_fallen : Asked → Bool
has_fallen asked = elim asked.openings [ None ↦ false | Some rows ↦ (openings_taken rows.now).1 ]

-- no openings are asked for, or the folder keeps none
abbrev pub HasNoOther : Asked → Type 0
HasNoOther asked = (asked.openings ≡ None) ⊎ (asked.kept ≡ None)

-- each row stands, no damage follows the records of either journal, and with the openings that are asked for both nodes are opened from them
pub record IsAllSound (asked : Asked) (journals : Journals) : Type 0 where
  pub rows : has_fallen asked ≡ false
  pub undamaged : are_damaged journals ≡ false
  pub opens : (openings : List Opening) × AreAsked asked openings × ((w : World) × IsStarted openings (copy_of journals.clear.now) (copy_of journals.depot.now) w)

-- with no openings, of which each stands behind those before it, the nodes are opened from journals
abbrev pub NoneOpen : Journals → Type 0
NoneOpen journals = (list : List Opening) (w : World) → IsStarted (standing list) (copy_of journals.clear.now) (copy_of journals.depot.now) w → ⊥

-- a row falls out, damage follows the records of a journal, or with the openings that are asked for the nodes are not opened from them: with
-- none at all, where none are asked for
abbrev pub IsFaulty : Asked → Journals → Type 0
IsFaulty asked journals = (has_fallen asked ≡ true) ⊎ (are_damaged journals ≡ true)
    ⊎ (((openings : List Opening) × AreAsked asked openings × CannotOpen openings journals.clear.now journals.depot.now) × (asked.openings ≡ None → NoneOpen journals))

-- openings of no account less than the records of these ranges need, and no more than any with which they may stand
abbrev pub NeedsOf : OpeningRanges → List Opening → Type 0
NeedsOf ranges list = (p : List DepRecord) → AreRangesOf ranges p → (openings : List Opening) → AreOpeningsOf openings p → AreEnough list openings p

-- A journal's file that is cut at any byte (this project's own rules).
use Rattle.std.specs.Prelude.{◌≡◌, ℕ, List, ◌++◌, take, Ok}
use Rattle.cns_journal.specs.Layout.{journal_of}
use Rattle.cns_journal.specs.Replay.{ReplayGives}
use Rattle.cns_records.specs.Clear.{HasPayload, spelling}
use Rattle.cns_records.specs.Dep.{HasDepPayload, dep_spelling}
use Rattle.cns_trades.specs.declared.opening.Opening.{Opening}
use Rattle.cns_clearing.specs.Books.{IsAllowed}
use Rattle.cns_depository.specs.Stock.{IsExecutable}

-- a list is a first part of another
abbrev pub IsFirstPart : {A : Type 0} → List A → List A → Type 0
IsFirstPart {A} first all = (rest : List A) × (all ≡ first ++ rest)

-- a file that is cut has a first part of the payloads of the whole; and where the whole has those of records that are taken, it has those of
-- a first part of them, which are taken as well
pub record MayBeCut {R : Type 0} (spelling : R → List ℕ) (allows : List R → R → Type 0) (fits : R → Type 0) (file : List ℕ) : Type 0 where
  pub payloads : (size : ℕ) → IsFirstPart (journal_of (take size file)) (journal_of file)
  pub records : (size : ℕ) (items : List R) → ReplayGives spelling allows fits (journal_of file) (Ok items)
      → (first : List R) × IsFirstPart first items × ReplayGives spelling allows fits (journal_of (take size file)) (Ok first)

-- so it is with the journals of both nodes
abbrev pub FilesMayBeCut : Type 0
FilesMayBeCut =
    ((file : List ℕ) → MayBeCut spelling IsAllowed HasPayload file)
    × ((openings : List Opening) (file : List ℕ) → MayBeCut dep_spelling (IsExecutable openings) HasDepPayload file)

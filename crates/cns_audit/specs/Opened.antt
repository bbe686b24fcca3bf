-- What both nodes are, opened from copies of their journals (this project's own rules).
use Rattle.std.specs.Prelude.{◌≡◌, ℕ, Bool, true, false, List}
use Rattle.cns_trades.specs.declared.opening.Opening.{Opening}
use Rattle.cns_journal.specs.DiskJournal.{nothing_known}
use Rattle.cns_journal.specs.Keeper.{KeeperState}
use Rattle.cns_file.specs.Copy.{CopyState, kept_by, copy_running}
use Rattle.cns_system.specs.Start.{IsNotOpened, IsStarted}
use Rattle.cns_system.specs.declared.fault.StartFault.{StartFault}
use Rattle.cns_system.specs.declared.fault.StartFault.TheVariants as start
use Rattle.cns_journal.specs.declared.record_log.ReplayFault.{ReplayFault}
use Rattle.cns_journal.specs.declared.record_log.ReplayFault.TheVariants.{OutOfMemory, BadJournal, Device}
use Rattle.cns_audit.specs.declared.opened.Opened.{Opened}
use Rattle.cns_audit.specs.declared.opened.Opened.TheVariants.{Agreed, Refused}

-- what a keeper over a copy of a journal's file shows before its reopening
abbrev pub unread : List ℕ → CopyState
unread file = record { file = file; count = 0 }

abbrev pub copy_of : List ℕ → KeeperState
copy_of file = record { honest = true; run = copy_running (unread file); journal = kept_by (unread file); foresight = nothing_known }

-- whether a fault is one of memory or of a device, and not of what the journals say
abbrev pub is_of_reading : ReplayFault → Bool
is_of_reading = elim [ OutOfMemory ↦ true | BadJournal place ↦ false | Device ↦ true ]

abbrev pub wants_memory : StartFault → Bool
wants_memory = elim [ start.Clear fault ↦ is_of_reading fault | start.Depot fault ↦ is_of_reading fault | start.Disagree ↦ false ]

-- why both nodes are not opened with these openings, by what the journals say
abbrev pub CannotOpen : List Opening → List ℕ → List ℕ → Type 0
CannotOpen openings clear depot =
    (fault : StartFault) × (rejected : List (List ℕ)) × (clear' depot' : KeeperState) × IsNotOpened openings fault rejected (copy_of clear) (copy_of depot) clear' depot'
    × (wants_memory fault ≡ false)

-- the two nodes as their opening with these openings leaves them: as the opening of a system says, or it says why there is none
abbrev pub IsOpening : List Opening → List ℕ → List ℕ → Opened → Type 0
IsOpening openings clear depot (Agreed system) = IsStarted openings (copy_of clear) (copy_of depot) system
IsOpening openings clear depot (Refused _ _) = CannotOpen openings clear depot

abbrev pub IsRefused : Opened → Type 0
IsRefused (Agreed system) = ⊥
IsRefused (Refused _ _) = Unit {0}

-- Records of which each allocation closes a lot.
use Rattle.std.proofs.Common.{◌≡◌, ◌∷◌, ℕ, true, false, List, Some, None, refl, inl, inr}
use Rattle.cns_journal.specs.RecordLog.{IsLawfulLog, LogShown, LogState, MayStand, log_shown}
use Rattle.cns_journal.specs.Replay.{AreAllowed}
use Rattle.cns_records.specs.declared.clear_record.ClearRecord.{ClearRecord}
use Rattle.cns_clearing.specs.Lots.{AreLots, ClosesLot}
use Rattle.cns_clearing.proofs.AllocationLemmas.{allocation_lawful}
use Rattle.cns_clearing.proofs.LotLemmas.{lot_found}
use Rattle.cns_clearing.specs.declared.lot.Lot.{Lot}
use Rattle.cns_system.specs.Lot.{LotState}
use Rattle.cns_system.specs.Numbered.{AreTied}
use Rattle.cns_system.proofs.HonestLemmas.{AreBack}
use Rattle.cns_system.proofs.NumberedLemmas.{served_by}
use Rattle.cns_system.proofs.RecordedLemmas.{IsClose, allocated}

-- records of which each allocation closes a lot, and the undecided one with them
pub record IsStrict (log : LogShown ClearRecord) : Type 0 where
  pub allowed : AreAllowed ClosesLot log.records
  pub tried : MayStand ClosesLot log.records log.tried
  pub up : log.down ≡ false → log.tried ≡ None

pub shown_strict : (log : LogState ClearRecord) → IsLawfulLog ClosesLot log → IsStrict (log_shown log)
shown_strict log l = assumption

pub log_strict : (log : LogState ClearRecord) → IsStrict (log_shown log) → IsLawfulLog ClosesLot log
log_strict log s = assumption

-- the allocation of a close closes a lot that these records have
pub close_closes : (number : ℕ) (c : List ClearRecord) (open_lots : List Lot) (lots : List LotState) → AreLots c open_lots → AreTied open_lots lots
    → (close : IsClose number open_lots lots) → ClosesLot c (allocated close)
close_closes number c open_lots lots are tied close =
    let lot = close.lot in
    allocation_lawful c close.twin lot.tickets lot.sealed (lot_found c open_lots lot.issue close.twin are close.found).0
    (served_by number open_lots lots lot tied close.at close.met close.twin close.found)

module _ (log : LogShown ClearRecord) (strict : IsStrict log) where
  -- they stay so with a record more that closes a lot, and with one such whose commit failed
  pub strict_added : (r : ClearRecord) → log.down ≡ false → ClosesLot log.records r → IsStrict (record log { records = r ∷ log.records }) × IsStrict (record log { tried = Some r; down = true })
  strict_added r up closes = (
    record { allowed = (closes, strict.allowed); tried = rw (strict.up up) tt; up = strict.up },
    record { allowed = strict.allowed; tried = closes; up = λ e. absurd (cc e) },
  )

  -- and at a restart of the node, where its records are back, and where they were not read
  pub strict_back : (c : List ClearRecord) → AreBack log.tried log.records c → IsStrict (record { records = c; tried = None; down = false })
  strict_back c (inl same) = rw same (record { allowed = strict.allowed; tried = tt; up = λ e. refl })
  strict_back c (inr (r, tried, is)) = rw is (record { allowed = (rw tried at strict.tried, strict.allowed); tried = tt; up = λ e. refl })

  pub strict_down : IsStrict (record log { down = true })
  strict_down = record { allowed = strict.allowed; tried = strict.tried; up = λ e. absurd (cc e) }

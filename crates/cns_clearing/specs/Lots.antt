-- Open lots, and the allocations that close them (this project's own rules). Records stand newest first.
use Rattle.std.specs.Prelude.{◌≡◌, ℕ, ◌≤◌, ◌==◌, ◌&&◌, not, false, List, [], ◌∷◌, ◌++◌, length, map, filter, All, count_by, Some, None, if◌then◌else◌}
use Rattle.std.specs.List.{filter_map}
use Rattle.cns_netting.specs.History.{credit_part}
use Rattle.cns_netting.specs.declared.position.PositionRow.{PositionRow}
use Rattle.cns_allocate.specs.Plan.{plan_of}
use Rattle.cns_allocate.specs.Served.{IsServed}
use Rattle.cns_allocate.specs.declared.planned.Planned.{Planned}
use Rattle.cns_records.specs.declared.allocation.Allocation.{Allocation}
use Rattle.cns_records.specs.declared.clear_record.ClearRecord.{ClearRecord}
use Rattle.cns_records.specs.declared.clear_record.ClearRecord.TheVariants.{Cycle, Allocate}
use Rattle.cns_clearing.specs.Books.{books_of, pool_tickets}
use Rattle.cns_clearing.specs.Pools.{avail_of}
use Rattle.cns_clearing.specs.declared.lot.Lot.{Lot}

-- the members that are long in an issue
abbrev pub longs_among : ℕ → List PositionRow → List ℕ
longs_among issue rows = filter_map (λ row. if (row.issue == issue) && not (credit_part row.position == 0) then Some row.member else None) rows

-- the plan of an issue: its longs that are still to receive shares, of which those that were long directly after the cycle before the latest have waited
abbrev pub plan_in : List ClearRecord → ℕ → List Planned
plan_in c issue = plan_of issue (books_of c).history (books_of c).orders (books_of c).priorities (longs_among issue (books_of c).previous)

-- the shares of an issue that confirmed covers brought, less those that confirmed deliveries took and those that unconfirmed ones ask for
abbrev pub avail_in : List ClearRecord → ℕ → ℕ
avail_in c issue = avail_of (books_of c).orders issue

-- a record is neither a cycle nor an allocation of the issue
abbrev pub IsQuiet : ℕ → ClearRecord → Type 0
IsQuiet issue (Cycle id) = ⊥
IsQuiet issue (Allocate a) = (issue == a.issue) ≡ false
IsQuiet issue _ = Unit {0}

abbrev pub AreQuiet : ℕ → List ClearRecord → Type 0
AreQuiet issue [] = Unit {0}
AreQuiet issue (r ∷ c) = IsQuiet issue r × AreQuiet issue c

-- a lot is as these records have it: since it was opened there was neither a cycle nor an allocation of its issue; it has all
-- shares that were there at its last pour, or at its opening where there was none, and the plan of its opening
pub record IsLot (c : List ClearRecord) (lot : Lot) : Type 0 where
  pub later : List ClearRecord
  pub middle : List ClearRecord
  pub before : List ClearRecord
  pub split : c ≡ later ++ (middle ++ before)
  pub opened : lot.opened ≡ length before
  pub upto : lot.upto ≡ length (middle ++ before)
  pub quiet : AreQuiet lot.issue (later ++ middle)
  pub poured : lot.poured ≡ avail_in (middle ++ before) lot.issue
  pub plan : lot.plan ≡ plan_in before lot.issue

-- the open lots, at most one of an issue
pub record AreLots (c : List ClearRecord) (lots : List Lot) : Type 0 where
  pub each : All (IsLot c) lots
  pub once : (issue : ℕ) → count_by (λ (lot : Lot). lot.issue == issue) lots ≤ 1

-- an allocation closes a lot that is as these records have it, and its tickets serve the lot's plan
pub record IsAllocation (c : List ClearRecord) (a : Allocation) : Type 0 where
  pub plan : List Planned
  pub lot : IsLot c (record { issue = a.issue; opened = a.opened; upto = a.upto; poured = a.poured; plan = plan })
  pub served : IsServed plan (pool_tickets a.drawn) a.sealed

-- an allocation may follow these records in the strict sense: it closes a lot as they have it, by tickets that serve its plan (`IsAllocable` asks only that
-- tickets, shares and numbers fit the books)
abbrev pub ClosesLot : List ClearRecord → ClearRecord → Type 0
ClosesLot c (Allocate a) = IsAllocation c a
ClosesLot c _ = Unit {0}

-- the lot that is opened after these records
abbrev pub new_lot : List ClearRecord → ℕ → Lot
new_lot c issue = record { issue = issue; opened = length c; upto = length c; poured = avail_in c issue; plan = plan_in c issue }

-- the lots once one of an issue is opened
abbrev pub lots_opened : List ClearRecord → ℕ → List Lot → List Lot
lots_opened c issue lots = lots ++ new_lot c issue ∷ []

-- a lot; where it is that of the issue, once it has these shares in all, as of so many records
abbrev pub refilled : ℕ → ℕ → ℕ → Lot → Lot
refilled issue upto poured lot = if lot.issue == issue then record lot { upto = upto; poured = poured } else lot

-- the lots once that of an issue has got all shares that are there
abbrev pub lots_poured : List ClearRecord → ℕ → List Lot → List Lot
lots_poured c issue lots = map (refilled issue (length c) (avail_in c issue)) lots

-- the lots without that of an issue
abbrev pub without_lot : ℕ → List Lot → List Lot
without_lot issue lots = filter (λ (lot : Lot). not (lot.issue == issue)) lots

-- the open lots once the node restarts: they all end, also where the restart is refused
abbrev pub lots_restarted : List Lot → List Lot
lots_restarted lots = []

-- the lots once a record was added: an allocation closes the lot of its issue
abbrev pub lots_after : ClearRecord → List Lot → List Lot
lots_after r lots = elim r [ Allocate a ↦ without_lot a.issue lots | _ ↦ lots ]

-- a record may be added while these lots are open: no cycle runs while one is
abbrev pub DoesNotDisturb : ClearRecord → List Lot → Type 0
DoesNotDisturb (Cycle id) lots = lots ≡ []
DoesNotDisturb _ lots = Unit {0}

-- The plan of an issue: who is to receive its shares, how many, and in which order (this project's own rule).
-- Histories and settings stand newest first.
use Rattle.std.specs.Prelude.{ℕ, ◌-◌, ◌≤◌, ◌==◌, ◌&&◌, nat_lt, List, [], ◌∷◌, Option, Some, None, All, AllPairs, count_by, filter, nat_eq, if◌then◌else◌}
use Rattle.std.specs.List.{filter_map, flat_map, list_any}
use Rattle.cns_netting.specs.History.{credit, credit_part, debit}
use Rattle.cns_netting.specs.Rows.{rows_of}
use Rattle.cns_netting.specs.declared.entry.NetEntry.{NetEntry}
use Rattle.cns_netting.specs.declared.position.PositionRow.{PositionRow}
use Rattle.cns_movements.specs.Asked.{IsAsked}
use Rattle.cns_movements.specs.Order.{open_sum}
use Rattle.cns_movements.specs.Book.{Orders}
use Rattle.cns_movements.specs.declared.order.MoveKind.TheVariants.{Delivery}
use Rattle.cns_covers.specs.Priorities.{is_on}
use Rattle.cns_covers.specs.declared.priorities.Prioritized.{Prioritized}
use Rattle.cns_allocate.specs.Group.{group_of, is_in, rank}
use Rattle.cns_allocate.specs.declared.group.Group.TheVariants.{Priority, WasLong, Other}
use Rattle.cns_allocate.specs.declared.planned.Planned.{Planned}

-- the shares that the member of a position is still to receive: those above 0 less the shares of its open deliveries in the issue
unfoldable pub want_of : Orders → PositionRow → ℕ
want_of book row = credit_part row.position - open_sum book.orders book.replies Delivery row.member row.issue

-- the member of a position as it is planned, where it is of the issue and something is left to receive: its group goes by the
-- settings of priorities and the members that were long in the issue directly after the cycle before the latest
unfoldable pub planned_of : ℕ → Orders → List Prioritized → List ℕ → PositionRow → Option Planned
planned_of issue book settings were_long row =
    let group = group_of (is_on settings row.member issue) (list_any (nat_eq row.member) were_long) in
    if (row.issue == issue) && nat_lt 0 (want_of book row) then Some (record { member = row.member; asked = want_of book row; group = group }) else None

-- some planned by group: those of the first group, then of the second, then the others
abbrev pub by_group : List Planned → List Planned
by_group planned = flat_map (λ group. filter (is_in group) planned) (Priority ∷ WasLong ∷ Other ∷ [])

-- the plan of an issue, by group, then member
abbrev pub plan_of : ℕ → List NetEntry → Orders → List Prioritized → List ℕ → List Planned
plan_of issue h book settings were_long = by_group (filter_map (planned_of issue book settings were_long) (rows_of h))

-- no member is long of more than 10^18 shares in an issue
pub record LongsFit (h : List NetEntry) : Type 0 where
  pub within : (member issue : ℕ) → credit h member issue - debit h member issue ≤ 1000000000000000000

-- each ask is for a share at least, and earlier groups come first: what workers need of a plan that they serve
pub record IsServable (plan : List Planned) : Type 0 where
  pub asks : All (λ (p : Planned). 1 ≤ p.asked) plan
  pub groups : AllPairs (λ (p q : Planned). rank p.group ≤ rank q.group) plan

-- each ask is one of an order, no member is planned twice, and earlier groups come first
pub record IsPlan (plan : List Planned) : Type 0 where
  pub asked : All (λ (p : Planned). IsAsked p.asked) plan
  pub once : (member : ℕ) → count_by (λ (p : Planned). p.member == member) plan ≤ 1
  pub groups : AllPairs (λ (p q : Planned). rank p.group ≤ rank q.group) plan

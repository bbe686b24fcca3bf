-- Tickets that a record can hold.
use Rattle.std.specs.Prelude.{◌≡◌, ℕ, ◌+◌, ◌≤◌, ◌==◌, ◌&&◌, not, Bool, true, List, [], ◌∷◌, All, count_by}
use Rattle.cns_allocate.specs.Served.{has_ticket}
use Rattle.cns_covers.specs.Bounds.{want_in}
use Rattle.cns_records.specs.declared.allocation.Allocation.{Allocation}
use Rattle.cns_clearing.specs.Books.{Books}
use Rattle.cns_clearing.specs.Pools.{avail_of}
use Rattle.cns_pool.specs.declared.ticket.Ticket.{Ticket}

-- a ticket whose start and shares a record can hold
pub record IsRecordable (t : Ticket) : Type 0 where
  pub start : t.start ≤ 1000000000000000000
  pub from : 1 ≤ t.asked
  pub to : t.asked ≤ 1000000000000000000

-- the tickets are of different members
abbrev pub AreApart : List Ticket → Type 0
AreApart tickets = (member : ℕ) → count_by (λ (t : Ticket). t.member == member) tickets ≤ 1

-- tickets that a record can hold
pub record AreRecordable (tickets : List Ticket) : Type 0 where
  pub each : All IsRecordable tickets
  pub once : AreApart tickets

-- whether the first ticket starts at n, and each other one where the one before it ends
abbrev pub is_chained : ℕ → List Ticket → Bool
is_chained n [] = true
is_chained n (t ∷ ts) = (t.start == n) && is_chained (n + t.asked) ts

-- whether no member has two of the tickets
abbrev pub is_apart : List Ticket → Bool
is_apart [] = true
is_apart (t ∷ ts) = not (has_ticket ts t.member) && is_apart ts

-- an allocation with these tickets may follow the records of the books, but for the numbers of its deliveries
abbrev pub MayFollow : Books → Allocation → List Ticket → Type 0
MayFollow b a tickets =
    (a.opened ≤ a.upto) × (is_chained 0 tickets ≡ true) × (is_apart tickets ≡ true)
    × All (λ (t : Ticket). t.asked ≤ want_in b.history b.orders t.member a.issue) tickets × (a.poured ≤ avail_of b.orders a.issue)

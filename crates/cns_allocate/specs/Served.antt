-- Who may draw a ticket next, and which tickets a lot may close with (this project's own rules).
use Rattle.std.specs.Prelude.{◌≡◌, ℕ, ◌≤◌, ◌==◌, Bool, false, not, nat_lt, List, [], ◌++◌, Some, None, AllPairs, IsPermutation, filter, find, if◌then◌else◌}
use Rattle.std.specs.List.{AllZip, list_any}
use Rattle.cns_pool.specs.declared.ticket.Ticket.{Ticket}
use Rattle.cns_pool.specs.Tiles.{AreChained}
use Rattle.cns_pool.specs.Pool.{intervals_of}
use Rattle.cns_allocate.specs.Group.{rank}
use Rattle.cns_allocate.specs.declared.planned.Planned.{Planned}
use Rattle.cns_allocate.specs.declared.turns.Turn.{Turn}
use Rattle.cns_allocate.specs.declared.turns.Turn.TheVariants.{NotLong, EarlierGroup, Next}

-- whether a member drew one of the tickets
abbrev pub has_ticket : List Ticket → ℕ → Bool
has_ticket tickets member = list_any (λ (t : Ticket). t.member == member) tickets

-- those of the planned that drew none of the tickets
abbrev pub waiting : List Planned → List Ticket → List Planned
waiting plan tickets = filter (λ (p : Planned). not (has_ticket tickets p.member)) plan

-- those of the planned that are not this member
abbrev pub without : ℕ → List Planned → List Planned
without member plan = filter (λ (p : Planned). not (p.member == member)) plan

-- whether one of the planned is of an earlier group than this one
abbrev pub is_after_others : List Planned → Planned → Bool
is_after_others plan planned = list_any (λ (p : Planned). nat_lt (rank p.group) (rank planned.group)) plan

-- what a member is answered that asks for a ticket while these wait: it is not one of them; one of an earlier group waits;
-- or how many shares its ticket has
abbrev pub turn_of : List Planned → ℕ → Turn
turn_of plan member = elim (find (λ (p : Planned). p.member == member) plan) [ None ↦ NotLong | Some p ↦ if is_after_others plan p then EarlierGroup else Next p.asked ]

-- a ticket is of a planned member, and of all the shares that are planned for it
abbrev pub IsDrawnBy : Ticket → Planned → Type 0
IsDrawnBy t p = (t.member ≡ p.member) × (t.asked ≡ p.asked)

-- some of those planned drew these tickets, in their order; the others drew none
pub record AreDrawnOf (planned : List Planned) (tickets : List Ticket) : Type 0 where
  pub drawers : List Planned
  pub others : List Planned
  pub permutation : IsPermutation (drawers ++ others) planned
  pub drawn : AllZip IsDrawnBy tickets drawers

-- tickets that follow a plan: some of its members drew them; these in the order of their tickets, and then the others, stand by group, earlier groups first; where
-- the lot is not sealed, each planned member drew one
pub record FollowPlan (plan : List Planned) (tickets : List Ticket) (sealed : Bool) : Type 0 where
  pub drawn : AreDrawnOf plan tickets
  pub groups : AllPairs (λ (p q : Planned). rank p.group ≤ rank q.group) (drawn.drawers ++ drawn.others)
  pub whole : sealed ≡ false → drawn.others ≡ []

-- the tickets of a lot that may close: they follow its plan, and stand end to end from 0
pub record IsServed (plan : List Planned) (tickets : List Ticket) (sealed : Bool) : Type 0 where
  pub follows : FollowPlan plan tickets sealed
  pub chained : AreChained 0 (intervals_of tickets)

-- A lot by its number, by which shares of an issue are given to the members of a plan (this project's own rules). The plan, and the shares that
-- were poured, are those of the clearing node's open lot of the issue.
use Rattle.std.specs.Prelude.{◌≡◌, ℕ, Bool, true, false, List, [], ◌∷◌, ◌++◌, sum_by}
use Rattle.cns_pool.specs.declared.ticket.Ticket.{Ticket}
use Rattle.cns_pool.specs.Pool.{asked_sum}
use Rattle.cns_allocate.specs.Plan.{IsPlan}
use Rattle.cns_allocate.specs.Served.{IsServed, waiting, without}
use Rattle.cns_allocate.specs.declared.planned.Planned.{Planned}
use Rattle.cns_records.specs.declared.clear_record.ClearRecord.{ClearRecord}
use Rattle.cns_clearing.specs.Lots.{plan_in}

-- its issue, the members that wait for a ticket (whose turn comes by group), the tickets in the order in which they were drawn, whether it is sealed, and whether
-- it has ended
pub record LotState : Type 0 where
  pub issue : ℕ
  pub turns : List Planned
  pub tickets : List Ticket
  pub sealed : Bool
  pub ended : Bool

-- how many shares are planned
abbrev pub planned_sum : List Planned → ℕ
planned_sum plan = sum_by (λ (p : Planned). p.asked) plan

-- a plan is that of an issue, as a first part of a clearing node's records has it
pub record IsPlanOf (c : List ClearRecord) (issue : ℕ) (plan : List Planned) : Type 0 where
  pub later : List ClearRecord
  pub before : List ClearRecord
  pub split : c ≡ later ++ before
  pub is : plan ≡ plan_in before issue

-- a lot as it is opened: each member of the plan waits
abbrev pub numbered_lot : ℕ → List Planned → LotState
numbered_lot issue plan = record { issue = issue; turns = plan; tickets = []; sealed = false; ended = false }

-- the ticket of this many shares that a member draws next
abbrev pub ticket_in : LotState → ℕ → ℕ → Ticket
ticket_in lot member asked = record { member = member; start = asked_sum lot.tickets; asked = asked }

-- a lot with one more ticket, whose member waits no longer; sealed; and ended, of which nothing is left but its issue
abbrev pub with_ticket : Ticket → LotState → LotState
with_ticket ticket lot = record lot { turns = without ticket.member lot.turns; tickets = lot.tickets ++ ticket ∷ [] }

abbrev pub with_seal : LotState → LotState
with_seal lot = record lot { sealed = true }

abbrev pub with_end : LotState → LotState
with_end lot = record { issue = lot.issue; turns = []; tickets = []; sealed = false; ended = true }

-- a lot is of a plan: its tickets are those of a lot of it that may close sealed, and the members wait that have none of them
pub record IsOfPlan (plan : List Planned) (lot : LotState) : Type 0 where
  pub is : IsPlan plan
  pub served : IsServed plan lot.tickets true
  pub turns : lot.turns ≡ waiting plan lot.tickets

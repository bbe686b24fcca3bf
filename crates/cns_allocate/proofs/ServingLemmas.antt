-- A plan is served group by group.
use Rattle.std.proofs.Common.{◌≡◌, ℕ, ◌+◌, ◌-◌, ◌<◌, ◌≤◌, ◌⊎◌, inl, inr, Bool, true, false, List, [], ◌∷◌, ◌++◌, length, take, drop, get_or, refl, sym, ap, ◌∙◌, arith, subst, length-append}
use Rattle.std.specs.Prelude.{All, AllPairs}
use Rattle.std.proofs.Math.Seq.{take-add}
use Rattle.std.proofs.lemmas.Bool.{cases_lt}
use Rattle.std.proofs.lemmas.List.{append-nil, get_or-drop, get_or-take, length-drop, length-take, nil_from_length, take-append-drop, take_rest}
use Rattle.std.proofs.lemmas.List.Elements.{All-append, All-cons, All-nil, All-weaker}
use Rattle.std.proofs.lemmas.List.Sorted.{length_permutation}
use Rattle.cns_ids.proofs.ListLemmas.{drop-add}
use Rattle.cns_pool.specs.declared.ticket.Ticket.{Ticket}
use Rattle.cns_pool.specs.WorkerSeat.{EndWithin, WorkerState}
use Rattle.cns_allocate.specs.Group.{rank}
use Rattle.cns_allocate.specs.Plan.{IsServable}
use Rattle.cns_allocate.specs.Serving.{FollowPlanByStart, HasDrawn, asked_in_plan}
use Rattle.cns_allocate.specs.declared.planned.Planned.{Planned}
use Rattle.cns_allocate.proofs.DealLemmas.{asked_in_plan-append}
use Rattle.cns_allocate.proofs.DrawnLemmas.{drawn-count, drawn-most}
use Rattle.cns_allocate.proofs.FollowLemmas.{follow-group, follow-rest}
use Rattle.cns_allocate.proofs.PlanLemmas.{IsNoLater}

-- tickets that end within n start within it
ends-start : (n : ℕ) (ts : List Ticket) → EndWithin n ts → All (λ (t : Ticket). t.start ≤ n) ts
ends-start n [] ends = All-nil (λ (t : Ticket). t.start ≤ n)
ends-start n (t ∷ ts) ends = All-cons (λ (u : Ticket). u.start ≤ n) t ts (omega (arith, ends.1)) (ends-start n ts ends.2)

-- of a whole plan there are as many tickets as planned
followed-count : (plan : List Planned) (ts : List Ticket) → FollowPlanByStart plan ts false → length ts ≡ length plan
followed-count plan ts follow =
    let f = follow.follows in
    omega (arith, length_permutation ts follow.sorted follow.permutation, ap length (f.whole refl), drawn-count plan follow.sorted f.drawn)

-- where the next group is not served, somebody has no ticket, and the seal was not met
pub fault-part : (plan : List Planned) (m : ℕ) (old new : WorkerState) → m < length plan → FollowPlanByStart (take m plan) old.tickets false → HasDrawn old [] new → length new.tickets < length plan
fault-part plan m old new below follow draws =
    omega (
      arith,
      below,
      ap length draws.added,
      length-append old.tickets draws.tickets,
      drawn-most [] draws.tickets draws.drawn,
      followed-count (take m plan) old.tickets follow,
      length-take m plan,
    )

pub fault-unmet : (old new : WorkerState) → HasDrawn old [] new → new.seen.sealed ≡ old.seen.sealed
fault-unmet old new draws = draws.all (omega (arith, drawn-most [] draws.tickets draws.drawn))

-- ---- where a group stands in the plan

-- the next group of a plan: the n members from the place m on, as they are read of those that are left
module _ (plan : List Planned) (m n : ℕ) (is : IsServable plan) (below : m < length plan) (some : 0 < n) (fits : n ≤ length (take (length plan - m) (drop m plan)))
    (one : (r : ℕ) × All (λ (p : Planned). rank p.group ≡ r) (take n (take (length plan - m) (drop m plan)))) where
  abbrev r : ℕ
  r = one.0

  read : take n (take (length plan - m) (drop m plan)) ≡ take n (drop m plan)
  read = ap (take n) (take_rest plan m)

  same : All (λ (p : Planned). rank p.group ≡ r) (take n (drop m plan))
  same = subst (All (λ (p : Planned). rank p.group ≡ r)) read one.1

  pub group_count : length (take n (take (length plan - m) (drop m plan))) ≡ n
  group_count = omega (arith, fits, length-take n (take (length plan - m) (drop m plan)))

  count : length (take n (drop m plan)) ≡ n
  count = ap length (sym read) ∙ group_count

  pub group_within : m + n ≤ length plan
  group_within = omega (arith, fits, below, length-take (length plan - m) (drop m plan))

  -- the group of its first place
  rank_at : (d : Planned) → rank (get_or plan m d).group ≡ r
  rank_at d =
      let first : get_or (take n (drop m plan)) 0 d ≡ get_or plan m d =
      get_or-take n (drop m plan) 0 d some ∙ get_or-drop m plan 0 d ∙ ap (λ (k : ℕ). get_or plan k d) (omega arith) in
      subst (λ (p : Planned). rank p.group ≡ r) first (same 0 d (omega (arith, some, count)))

  -- no group before it is later
  upto_group : All (λ (p : Planned). rank p.group ≤ r) (take m plan)
  upto_group k d less =
      let before : k < m = omega (arith, less, length-take m plan) in
      let order = is.groups k m d before below in
      rw (get_or-take m plan k d before) (omega (arith, order, rank_at d))

  -- and none from it on is earlier
  from_group : (j : ℕ) → m ≤ j → All (λ (p : Planned). r ≤ rank p.group) (drop j plan)
  from_group j le k d less =
      let at : j + k < length plan = omega (arith, less, length-drop j plan) in
      rw (get_or-drop j plan k d) (by (cases_lt m (j + k)) at)
    where
      by : (m < j + k) ⊎ (j + k ≤ m) → j + k < length plan → r ≤ rank (get_or plan (j + k) d).group
      by (inl after) at = omega (arith, is.groups m (j + k) d after at, rank_at d)
      by (inr here) at = let same_place : m ≡ j + k = omega arith in subst (λ (i : ℕ). r ≤ rank (get_or plan i d).group) same_place (omega (arith, rank_at d))

  rest_pairs : (j : ℕ) → AllPairs IsNoLater (drop j plan)
  rest_pairs j i k d less within =
      rw (get_or-drop j plan i d, get_or-drop j plan k d) (is.groups (j + i) (j + k) d (omega arith) (omega (arith, within, length-drop j plan)))

  -- ---- what a group's draws leave

  module _ (old new : WorkerState) (follow : FollowPlanByStart (take m plan) old.tickets false) where
    -- where the group is not served, the tickets follow the plan as those of a sealed lot
    pub fault-follow : HasDrawn old [] new → FollowPlanByStart plan new.tickets true
    fault-follow draws =
        let none : draws.tickets ≡ [] = nil_from_length draws.tickets (omega (arith, drawn-most [] draws.tickets draws.drawn)) in
        let kept : new.tickets ≡ old.tickets = draws.added ∙ ap (λ (l : List Ticket). old.tickets ++ l) none ∙ append-nil old.tickets in
        let whole = follow-rest r (take m plan) (drop m plan) old.tickets false upto_group (from_group m (omega arith)) (rest_pairs m) follow in
        rw kept (subst (λ (l : List Planned). FollowPlanByStart l old.tickets true) (take-append-drop m plan) whole)

    module _ (drawn : HasDrawn old (take n (take (length plan - m) (drop m plan))) new) (ends : EndWithin old.seen.asked old.tickets) where
      draws : HasDrawn old (take n (drop m plan)) new
      draws = subst (λ (l : List Planned). HasDrawn old l new) read drawn

      after : (sealed : Bool) → (sealed ≡ false → length draws.tickets ≡ length (take n (drop m plan))) → FollowPlanByStart (take (m + n) plan) new.tickets sealed
      after sealed whole =
          rw (take-add m n plan, draws.added)
          (follow-group old.seen.asked r (take m plan) (take n (drop m plan)) old.tickets draws.tickets sealed upto_group same follow
          (ends-start old.seen.asked old.tickets ends) draws.drawn draws.after whole)

      -- how many tickets there are then
      tickets_then : length new.tickets ≡ m + length draws.tickets
      tickets_then =
          omega (
            arith,
            below,
            ap length draws.added,
            length-append old.tickets draws.tickets,
            followed-count (take m plan) old.tickets follow,
            length-take m plan,
          )

      -- where all of the group have a ticket, the tickets follow the plan up to its end, and the seal was not met
      pub group-served : m + n ≤ length new.tickets → FollowPlanByStart (take (m + n) plan) new.tickets false × (new.seen.sealed ≡ old.seen.sealed)
      group-served all =
          let each : length draws.tickets ≡ length (take n (drop m plan)) =
          omega (arith, all, tickets_then, count, drawn-most (take n (drop m plan)) draws.tickets draws.drawn) in
          (after false (λ e. each), draws.all each)

      -- where one has none, the tickets follow the plan as those of a sealed lot, and the seal was met
      pub group-cut : length new.tickets < m + n → FollowPlanByStart plan new.tickets true × (new.seen.sealed ≡ true)
      group-cut fewer =
          let whole =
          follow-rest r (take (m + n) plan) (drop (m + n) plan) new.tickets true
          (rw (take-add m n plan)
          (All-append (λ (p : Planned). rank p.group ≤ r) (take m plan) (take n (drop m plan)) upto_group
          (All-weaker (λ (p : Planned). rank p.group ≡ r) (λ (p : Planned). rank p.group ≤ r) (λ p e. omega arith) (take n (drop m plan)) same)))
          (from_group (m + n) (omega arith)) (rest_pairs (m + n)) (after true (λ e. cc)) in
          (subst (λ (l : List Planned). FollowPlanByStart l new.tickets true) (take-append-drop (m + n) plan) whole, draws.met (omega (arith, fewer, tickets_then, count)))

      -- what is left of the seat is enough for the others
      pub budget-after : asked_in_plan (drop m plan) ≤ old.budget → asked_in_plan (drop (m + n) plan) ≤ new.budget
      budget-after enough = omega (arith, enough, draws.budget, ap asked_in_plan (drop-add m n plan), asked_in_plan-append (take n (drop m plan)) (drop (m + n) plan))

      pub calls-after : length plan ≤ old.calls + m → length plan ≤ new.calls + (m + n)
      calls-after enough = omega (arith, enough, draws.calls, count)

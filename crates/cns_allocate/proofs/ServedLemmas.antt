-- Tickets that are drawn in turn are those of a lot that may close, and the other way round.
use Rattle.std.proofs.Common.{◌≡◌, ◌≤◌, ◌+◌, ℕ, suc, List, [], ◌∷◌, ◌++◌, Bool, true, false, not, cond, Option, None, Some, ap, refl, sym, arith, ◌∙◌}
use Rattle.std.specs.Prelude.{◌==◌, ◌||◌, ◌&&◌, ◌↔◌, All, AllPairs, IsPermutation, count_by, sum_by, filter, find}
use Rattle.std.specs.List.{AllZip}
use Rattle.std.proofs.Math.Bool.{or-false}
use Rattle.std.proofs.lemmas.Bool.{eq-eqb, true≢false}
use Rattle.std.proofs.lemmas.List.Elements.{All-cons, All-filter, All-head, All-nil, All-tail, All-weaker, filter_passes}
use Rattle.std.proofs.lemmas.List.Folds.{list_any-append}
use Rattle.std.proofs.lemmas.List.Kept.{AllPairs-cons}
use Rattle.std.proofs.lemmas.List.Sorted.{All-permutation, IsPermutation-sym, sum_by-IsPermutation, sum_by_pushed}
use Rattle.std.proofs.lemmas.List.Sums.{sum_by-append, sum_by-cons}
use Rattle.cns_ids.proofs.ListLemmas.{AllPairs-head, AllPairs-tail, count-yes, filter_twice, nat_eq-sym, nil_from_none}
use Rattle.cns_pool.specs.declared.ticket.Ticket.{Ticket}
use Rattle.cns_pool.specs.Tiles.{AreChained}
use Rattle.cns_pool.specs.Pool.{asked_sum, intervals_of}
use Rattle.cns_movements.specs.Asked.{IsAsked}
use Rattle.cns_allocate.specs.Group.{rank}
use Rattle.cns_allocate.specs.Plan.{IsPlan}
use Rattle.cns_allocate.specs.Served.{AreDrawnOf, FollowPlan, IsDrawnBy, IsServed, has_ticket, turn_of, waiting, without}
use Rattle.cns_allocate.specs.declared.planned.Planned.{Planned}
use Rattle.cns_allocate.specs.declared.turns.Turn.TheVariants.{Next}
use Rattle.cns_allocate.proofs.DrawnLemmas.{drawn-cons, drawn-none, drawn-permutation}
use Rattle.cns_allocate.proofs.PlanLemmas.{IsNoLater, is_planned_as}
use Rattle.cns_allocate.proofs.TurnLemmas.{IsPlan-without, count_none, find-All, find-none, find-passes, find-without, turn-next, turn-parts}

-- ---- those who wait

-- before the first ticket, all wait
pub waiting-none : (plan : List Planned) → waiting plan [] ≡ plan
waiting-none [] = refl
waiting-none (p ∷ plan) = ap (λ ps. p ∷ ps) (waiting-none plan)

not_or : (a b : Bool) → not (a || b) ≡ (not a && not b)
not_or true b = refl
not_or false b = refl

-- after the first ticket, all wait but the one that drew it
pub waiting-first : (plan : List Planned) (t : Ticket) (ts : List Ticket) → waiting (without t.member plan) ts ≡ waiting plan (t ∷ ts)
waiting-first plan t ts =
    filter_twice (λ (p : Planned). not (has_ticket ts p.member)) (λ (p : Planned). not (p.member == t.member)) (λ (p : Planned). not (has_ticket (t ∷ ts) p.member))
    (λ p. not_or (t.member == p.member) (has_ticket ts p.member) ∙ rw (nat_eq-sym t.member p.member) refl) plan

-- after one more ticket, those who waited do, but for the one that drew it
pub waiting_more : (plan : List Planned) (tickets : List Ticket) (t : Ticket)
    → waiting plan (tickets ++ t ∷ []) ≡ filter (λ (p : Planned). not (p.member == t.member)) (waiting plan tickets)
waiting_more plan tickets t =
    sym
    (filter_twice (λ (p : Planned). not (p.member == t.member)) (λ (p : Planned). not (has_ticket tickets p.member))
    (λ (p : Planned). not (has_ticket (tickets ++ t ∷ []) p.member)) one plan)
  where
    one : (p : Planned) → not (has_ticket (tickets ++ t ∷ []) p.member) ≡ (not (has_ticket tickets p.member) && not (p.member == t.member))
    one p =
        rw (list_any-append (λ (u : Ticket). u.member == p.member) tickets (t ∷ []), or-false (t.member == p.member), nat_eq-sym p.member t.member)
        (not_or (has_ticket tickets p.member) (t.member == p.member))

-- ---- tickets drawn in turn

-- tickets that start from n are each drawn by the one whose turn it is, where these wait
abbrev pub AreInTurn : List Planned → ℕ → List Ticket → Type 0
AreInTurn plan n [] = Unit {0}
AreInTurn plan n (t ∷ ts) = (t.start ≡ n) × (turn_of plan t.member ≡ Next t.asked) × AreInTurn (without t.member plan) (n + t.asked) ts

-- they follow the plan, and stand end to end
in_turn-follow : (plan : List Planned) (n : ℕ) (tickets : List Ticket) (sealed : Bool) → IsPlan plan → AreInTurn plan n tickets → (sealed ≡ false → waiting plan tickets ≡ [])
    → FollowPlan plan tickets sealed × AreChained n (intervals_of tickets)
in_turn-follow plan n [] sealed is turns nobody = (
  record { drawn = drawn-none plan; groups = is.groups; whole = λ open_lot. sym (waiting-none plan) ∙ nobody open_lot },
  tt,
)
in_turn-follow plan n (t ∷ ts) sealed is turns nobody =
    let left : List Planned = without t.member plan in
    let turn = turn-parts plan t.member t.asked turns.1 in
    let rest = in_turn-follow left (n + t.asked) ts sealed (IsPlan-without t.member plan is) turns.2 (λ open_lot. waiting-first plan t ts ∙ nobody open_lot) in
    let by = rest.0.drawn in
    let later = All-filter (λ (q : Planned). not (q.member == t.member)) (IsNoLater turn.planned) plan turn.first in (
      record {
        drawn =
            drawn-permutation (turn.planned ∷ left) plan (t ∷ ts) (find-without t.member plan turn.planned (is.once t.member) turn.found)
            (drawn-cons turn.planned left t ts (sym turn.named, sym turn.shares) by);
        groups =
            AllPairs-cons IsNoLater turn.planned (by.drawers ++ by.others)
            (All-permutation (IsNoLater turn.planned) left (by.drawers ++ by.others) (IsPermutation-sym (by.drawers ++ by.others) left by.permutation) later) rest.0.groups;
        whole = rest.0.whole;
      },
      (turns.0, rest.1),
    )

-- what holds of each of some planned holds of each of the others, and sums over them are the same
record HaveSame (ps qs : List Planned) : Type 1 where
  each : (P : Planned → Type 0) → All P ps → All P qs
  sums : (f : Planned → ℕ) → sum_by f qs ≡ sum_by f ps

permutation-same : (ps qs : List Planned) → IsPermutation ps qs → HaveSame ps qs
permutation-same ps qs same = record { each = λ P. All-permutation P ps qs same; sums = λ f. sum_by-IsPermutation f ps qs same }

-- the first of an order of a plan is found by its member, and the others are those of the plan that are not this member
module _ (p : Planned) (ps plan : List Planned) (same : HaveSame (p ∷ ps) plan) (once : count_by (is_planned_as p.member) plan ≤ 1) where
  counted : count_by (is_planned_as p.member) plan ≡ suc (count_by (is_planned_as p.member) ps)
  counted = same.sums (λ (q : Planned). cond (is_planned_as p.member q) 1 0) ∙ count-yes (is_planned_as p.member) p ps (eq-eqb p.member p.member refl)

  find-first : find (is_planned_as p.member) plan ≡ Some p
  find-first = by (find (is_planned_as p.member) plan) refl
    where
      apart : (q : Planned) → is_planned_as p.member q ≡ false → is_planned_as p.member q ≡ true → q ≡ p
      apart q other as_member = cc

      alone : All (λ (q : Planned). is_planned_as p.member q ≡ true → q ≡ p) plan
      alone =
          same.each (λ (q : Planned). is_planned_as p.member q ≡ true → q ≡ p)
          (All-cons (λ (q : Planned). is_planned_as p.member q ≡ true → q ≡ p) p ps (λ e. refl)
          (All-weaker (λ (q : Planned). is_planned_as p.member q ≡ false) (λ (q : Planned). is_planned_as p.member q ≡ true → q ≡ p) apart ps
          (count_none (is_planned_as p.member) ps (omega (arith, counted, once)))))

      by : (o : Option Planned) → find (is_planned_as p.member) plan ≡ o → o ≡ Some p
      by None e = absurd (omega (arith, counted, find-none (is_planned_as p.member) plan e))
      by (Some q) e =
          ap Some (find-All (λ (r : Planned). is_planned_as p.member r ≡ true → r ≡ p) (is_planned_as p.member) plan q alone e (find-passes (is_planned_as p.member) plan q e))

  same_rest : HaveSame ps (without p.member plan)
  same_rest = record { each = kept; sums = λ f. omega (arith, same.sums f, sum_by-cons f p ps, sum_by_pushed f p (without p.member plan) plan (find-without p.member plan p once find-first)) }
    where
      other : Planned → Bool
      other q = not (q.member == p.member)

      kept : (P : Planned → Type 0) → All P ps → All P (without p.member plan)
      kept P all k d below =
          All-filter other (λ (q : Planned). other q ≡ true → P q) plan
          (same.each (λ (q : Planned). other q ≡ true → P q)
          (All-cons (λ (q : Planned). other q ≡ true → P q) p ps (λ e. absurd (true≢false (sym e ∙ ap not (eq-eqb p.member p.member refl))))
          (All-weaker P (λ (q : Planned). other q ≡ true → P q) (λ q holds e. holds) ps all)))
          k d below (filter_passes other plan k d below)

-- tickets that are drawn in an order of the plan, and stand end to end, are drawn in turn; and where there are no others, nobody waits
follow-in_turn : (plan : List Planned) (n : ℕ) (tickets : List Ticket) (drawers others : List Planned) → IsPlan plan → HaveSame (drawers ++ others) plan
    → AllPairs IsNoLater (drawers ++ others) → AllZip IsDrawnBy tickets drawers → AreChained n (intervals_of tickets)
    → AreInTurn plan n tickets × (others ≡ [] → waiting plan tickets ≡ [])
follow-in_turn plan n [] [] others is same groups drawn chained =
    (tt, λ none. waiting-none plan ∙ nil_from_none plan (same.each (λ (p : Planned). ⊥) (rw none (All-nil (λ (p : Planned). ⊥)))))
follow-in_turn plan n [] (p ∷ ps) others is same groups drawn chained = absurd drawn
follow-in_turn plan n (t ∷ ts) [] others is same groups drawn chained = absurd drawn
follow-in_turn plan n (t ∷ ts) (p ∷ ps) others is same groups drawn chained =
    let left : List Planned = without t.member plan in
    let found : find (is_planned_as t.member) plan ≡ Some p = rw drawn.0.0 (find-first p (ps ++ others) plan same (is.once p.member)) in
    let rest_same : HaveSame (ps ++ others) left = rw drawn.0.0 (same_rest p (ps ++ others) plan same (is.once p.member)) in
    let first =
    same.each (IsNoLater p)
    (All-cons (IsNoLater p) p (ps ++ others) (let itself : rank p.group ≤ rank p.group = omega arith in itself) (AllPairs-head IsNoLater p (ps ++ others) groups)) in
    let rest =
    follow-in_turn left (n + t.asked) ts ps others (IsPlan-without t.member plan is) rest_same (AllPairs-tail IsNoLater p (ps ++ others) groups) drawn.1 chained.1 in
    ((chained.0, turn-next plan t.member p found first ∙ ap Next (sym drawn.0.1), rest.0), λ none. sym (waiting-first plan t ts) ∙ rest.1 none)

-- tickets from a start on after which a lot may close, while these wait: each is drawn in turn, and where nothing is sealed, nobody waits
-- after them
abbrev pub MayClose : List Planned → ℕ → List Ticket → Bool → Type 0
MayClose left start tickets sealed = AreInTurn left start tickets × (sealed ≡ false → waiting left tickets ≡ [])

-- the tickets of a lot that may close are such tickets, and the other way round
pub served-turns : (plan : List Planned) (tickets : List Ticket) (sealed : Bool) → IsPlan plan → IsServed plan tickets sealed ↔ MayClose plan 0 tickets sealed
served-turns plan tickets sealed is = (
  λ s.
      let by = s.follows.drawn in
      let turns =
      follow-in_turn plan 0 tickets by.drawers by.others is (permutation-same (by.drawers ++ by.others) plan by.permutation) s.follows.groups by.drawn s.chained in
      (turns.0, λ open_lot. turns.1 (s.follows.whole open_lot)),
  λ turns. let follow = in_turn-follow plan 0 tickets sealed is turns.0 turns.1 in record { follows = follow.0; chained = follow.1 },
)

-- the first of them is drawn in turn, and the others follow it
pub close-first : (left : List Planned) (start : ℕ) (t : Ticket) (ts : List Ticket) (sealed : Bool)
    → MayClose left start (t ∷ ts) sealed ↔ ((t.start ≡ start) × (turn_of left t.member ≡ Next t.asked) × MayClose (without t.member left) (start + t.asked) ts sealed)
close-first left start t ts sealed = (
  λ all. (all.0.0, all.0.1, (all.0.2, λ open_lot. waiting-first left t ts ∙ all.1 open_lot)),
  λ first. ((first.0, first.1, first.2.0), λ open_lot. sym (waiting-first left t ts) ∙ first.2.1 open_lot),
)

-- one more ticket is drawn in turn too
in_turn_more : (plan : List Planned) (n : ℕ) (tickets : List Ticket) (t : Ticket) → AreInTurn plan n tickets → t.start ≡ n + asked_sum tickets
    → turn_of (waiting plan tickets) t.member ≡ Next t.asked → AreInTurn plan n (tickets ++ t ∷ [])
in_turn_more plan n [] t turns starts turn = (omega (arith, starts), rw waiting-none at turn, tt)
in_turn_more plan n (u ∷ us) t turns starts turn = (
  turns.0,
  turns.1,
  in_turn_more (without u.member plan) (n + u.asked) us t turns.2 (omega (arith, starts, sum_by-cons (λ (v : Ticket). v.asked) u us))
      (rw (waiting-first plan u us) turn),
)

-- ---- what holds of a lot's tickets

-- a sealed lot may close with no ticket
pub served_none : (plan : List Planned) → IsPlan plan → IsServed plan [] true
served_none plan is = (served-turns plan [] true is).1 (tt, λ e. cc)

-- and with one more ticket, where it is drawn in turn
pub served_more : (plan : List Planned) (tickets : List Ticket) (member asked : ℕ) → IsPlan plan → IsServed plan tickets true
    → turn_of (waiting plan tickets) member ≡ Next asked → IsServed plan (tickets ++ record { member = member; start = asked_sum tickets; asked = asked } ∷ []) true
served_more plan tickets member asked is s turn =
    let next : Ticket = record { member = member; start = asked_sum tickets; asked = asked } in
    let starts : asked_sum tickets ≡ 0 + asked_sum tickets = omega arith in
    (served-turns plan (tickets ++ next ∷ []) true is).1 (in_turn_more plan 0 tickets next ((served-turns plan tickets true is).0 s).0 starts turn, λ e. cc)

-- a lot in which nobody waits may close unsealed
pub served_whole : (plan : List Planned) (tickets : List Ticket) → IsPlan plan → IsServed plan tickets true → waiting plan tickets ≡ [] → IsServed plan tickets false
served_whole plan tickets is s nobody = (served-turns plan tickets false is).1 (((served-turns plan tickets true is).0 s).0, λ e. nobody)

-- a sum over tickets is at most that over those planned
served_most : (f : Ticket → ℕ) (g : Planned → ℕ) → ((t : Ticket) (p : Planned) → IsDrawnBy t p → f t ≡ g p) → (plan : List Planned) (tickets : List Ticket) (sealed : Bool)
    → IsServed plan tickets sealed → sum_by f tickets ≤ sum_by g plan
served_most f g each plan tickets sealed s =
    omega (arith, drawn_sum tickets by.drawers by.drawn, sum_by-append g by.drawers by.others, sum_by-IsPermutation g (by.drawers ++ by.others) plan by.permutation)
  where
    by : AreDrawnOf plan tickets
    by = s.follows.drawn

    drawn_sum : (ts : List Ticket) (ps : List Planned) → AllZip IsDrawnBy ts ps → sum_by f ts ≡ sum_by g ps
    drawn_sum [] [] drawn = refl
    drawn_sum [] (p ∷ ps) drawn = absurd drawn
    drawn_sum (t ∷ ts) [] drawn = absurd drawn
    drawn_sum (t ∷ ts) (p ∷ ps) drawn = omega (arith, sum_by-cons f t ts, sum_by-cons g p ps, each t p drawn.0, drawn_sum ts ps drawn.1)

-- what holds of each planned holds of its ticket
served_each : (plan : List Planned) (tickets : List Ticket) (sealed : Bool) (P : Planned → Type 0) (Q : Ticket → Type 0)
    → ((t : Ticket) (p : Planned) → IsDrawnBy t p → P p → Q t) → IsServed plan tickets sealed → All P plan → All Q tickets
served_each plan tickets sealed P Q each s all =
    drawn_all tickets by.drawers by.others by.drawn (All-permutation P plan (by.drawers ++ by.others) (IsPermutation-sym (by.drawers ++ by.others) plan by.permutation) all)
  where
    by : AreDrawnOf plan tickets
    by = s.follows.drawn

    drawn_all : (ts : List Ticket) (ps others : List Planned) → AllZip IsDrawnBy ts ps → All P (ps ++ others) → All Q ts
    drawn_all [] [] others drawn holds = All-nil Q
    drawn_all [] (p ∷ ps) others drawn holds = absurd drawn
    drawn_all (t ∷ ts) [] others drawn holds = absurd drawn
    drawn_all (t ∷ ts) (p ∷ ps) others drawn holds =
        All-cons Q t ts (each t p drawn.0 (All-head P p (ps ++ others) holds)) (drawn_all ts ps others drawn.1 (All-tail P p (ps ++ others) holds))

-- no member has two tickets
pub served_once : (plan : List Planned) (tickets : List Ticket) (sealed : Bool) → IsPlan plan → IsServed plan tickets sealed → (member : ℕ)
    → count_by (λ (t : Ticket). t.member == member) tickets ≤ 1
served_once plan tickets sealed is s member =
    omega (
      arith,
      served_most (λ (t : Ticket). cond (t.member == member) 1 0) (λ (p : Planned). cond (p.member == member) 1 0)
          (λ t p drawn. ap (λ (m : ℕ). cond (m == member) 1 0) drawn.0) plan tickets sealed s,
      is.once member,
    )

-- what limits those planned limits the tickets
pub served_within : (plan : List Planned) (tickets : List Ticket) (sealed : Bool) → IsServed plan tickets sealed → (limit : ℕ → ℕ)
    → All (λ (p : Planned). p.asked ≤ limit p.member) plan → All (λ (t : Ticket). t.asked ≤ limit t.member) tickets
served_within plan tickets sealed s limit all =
    served_each plan tickets sealed (λ (p : Planned). p.asked ≤ limit p.member) (λ (t : Ticket). t.asked ≤ limit t.member)
    (λ t p drawn le. rw (drawn.0, drawn.1) le) s all

-- the tickets ask for no more than is planned
pub served_sum : (plan : List Planned) (tickets : List Ticket) (sealed : Bool) → IsServed plan tickets sealed → asked_sum tickets ≤ sum_by (λ (p : Planned). p.asked) plan
served_sum = served_most (λ (t : Ticket). t.asked) (λ (p : Planned). p.asked) (λ t p drawn. drawn.1)

-- each is of 1 to 10^18 shares
pub served_shares : (plan : List Planned) (tickets : List Ticket) (sealed : Bool) → IsPlan plan → IsServed plan tickets sealed
    → All (λ (t : Ticket). (1 ≤ t.asked) × (t.asked ≤ 1000000000000000000)) tickets
served_shares plan tickets sealed is s =
    served_each plan tickets sealed (λ (p : Planned). IsAsked p.asked) (λ (t : Ticket). (1 ≤ t.asked) × (t.asked ≤ 1000000000000000000))
    (λ t p drawn asked. rw drawn.1 (asked.from, asked.to)) s is.asked

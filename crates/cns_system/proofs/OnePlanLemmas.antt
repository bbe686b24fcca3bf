-- The tickets that are entered of a lot that was busy are of its plan.
use Rattle.std.proofs.Common.{◌≡◌, ◌∙◌, ℕ, Bool, true, false, List, [], ◌∷◌, ◌++◌, Some, ap, sym, subst, refl, inl, inr}
use Rattle.std.specs.Prelude.{◌==◌}
use Rattle.std.specs.List.{list_any}
use Rattle.std.proofs.lemmas.List.{append_assoc, append-nil}
use Rattle.std.proofs.lemmas.Option.{same_Some}
use Rattle.cns_pool.specs.declared.ticket.Ticket.{Ticket}
use Rattle.cns_allocate.specs.Served.{IsServed, waiting}
use Rattle.cns_allocate.specs.declared.planned.Planned.{Planned}
use Rattle.cns_allocate.proofs.ServedLemmas.{waiting-none}
use Rattle.cns_allocate.proofs.TurnLemmas.{find-All}
use Rattle.cns_records.specs.declared.refusal.Refusal.{Refusal}
use Rattle.cns_system.specs.Finish.{AreCutOff, AreEntered, AreOfLot, AreOfOnePlan, HasPlan, IsClosed, IsEnded, IsUnserved, drawn_in, draws, is_close, is_done, reserves}
use Rattle.cns_system.specs.Floor.{AreBusy, BusyLot, FloorState, IsBusy, busy_at}
use Rattle.cns_system.specs.Lot.{IsOfPlan, LotState, with_ticket}
use Rattle.cns_wire.specs.Packet.{at_number}
use Rattle.cns_system.specs.Lots.{ArePlanned}
use Rattle.cns_system.specs.Numbered.{AreTied}
use Rattle.cns_system.specs.Scene.{Comes}
use Rattle.cns_system.specs.Shown.{shown_of}
use Rattle.cns_system.specs.declared.event.Event.TheVariants as event
use Rattle.cns_system.specs.Run.{Run}
use Rattle.cns_system.specs.World.{World}
use Rattle.cns_system.specs.declared.outcome.Outcome.{Outcome}
use Rattle.cns_system.specs.declared.outcome.Outcome.TheVariants as outcomes
use Rattle.cns_system.proofs.FloorLemmas.{busy_number}
use Rattle.cns_system.proofs.RecordedLemmas.{IsMet}
use Rattle.cns_system.proofs.HappensLemmas.{OrRefused}
use Rattle.cns_system.proofs.LotsLemmas.{IsGoing}
use Rattle.cns_system.proofs.NumberedLemmas.{drawn_stays, met_served}
use Rattle.cns_system.proofs.TiedLemmas.{at_same}
use Rattle.cns_system.proofs.ToldLemmas.{Closes, IsDraw, Seals, closes_by, drawn_of, seals_by}

-- ---- the lot while tickets are entered

-- the lot of a number has not ended
abbrev Ongoing : ℕ → List LotState → Type 0
Ongoing n lots = (lot : LotState) × IsGoing lots n lot

-- the lot of a number is of a plan, has these tickets, and is not sealed
record Has (plan : List Planned) (n : ℕ) (lots : List LotState) (tickets : List Ticket) : Type 0 where
  lot : LotState
  found : at_number lots n ≡ Some lot
  of : IsOfPlan plan lot
  tickets_are : lot.tickets ≡ tickets
  unsealed : lot.sealed ≡ false

has_more : (plan : List Planned) (n member : ℕ) (t : Ticket) (lots new : List LotState) (tickets : List Ticket) → Has plan n lots tickets
    → IsDraw n member t lots new → Has plan n new (tickets ++ t ∷ [])
has_more plan n member t lots new tickets has at =
    let one : at.lot ≡ has.lot = same_Some at.lot has.lot (sym at.at.found ∙ has.found) in
    record {
      lot = with_ticket t at.lot;
      found = ap (λ (ls : List LotState). at_number ls n) at.new_is ∙ at_same lots n at.lot (with_ticket t at.lot) at.at.found;
      of = drawn_stays plan at.lot member t at.drawn (subst (IsOfPlan plan) (sym one) has.of);
      tickets_are = ap (λ (l : LotState). l.tickets ++ t ∷ []) one ∙ ap (λ (ts : List Ticket). ts ++ t ∷ []) has.tickets_are;
      unsealed = ap (λ (l : LotState). l.sealed) one ∙ has.unsealed;
    }

has_all : (plan : List Planned) (n : ℕ) (ts us : List Ticket) (old new : World) → Run (reserves n ts) (draws ts) old new → Has plan n old.clear.lots us
    → Has plan n new.clear.lots (us ++ ts)
has_all plan n [] us old new run has =
    subst (λ (l : List Ticket). Has plan n new.clear.lots l) (sym (append-nil us)) (subst (λ (w : World). Has plan n w.clear.lots us) (sym run) has)
has_all plan n (t ∷ ts) us old new run has =
    let more = has_more plan n t.member t old.clear.lots run.0.clear.lots us has (drawn_of n t.member t old run.0 run.1.comes) in
    subst (λ (l : List Ticket). Has plan n new.clear.lots l) (append_assoc us (t ∷ []) ts) (has_all plan n ts (us ++ t ∷ []) run.0 new run.2 more)

-- a ticket was drawn of a lot that had not ended
drawn_going : (n : ℕ) (t : Ticket) (ts : List Ticket) (old mid : World) → Run (reserves n (t ∷ ts)) (draws (t ∷ ts)) old mid → Ongoing n old.clear.lots
drawn_going n t ts old mid run =
    let drawn = drawn_of n t.member t old run.0 run.1.comes in (drawn.lot, drawn.at)

-- ---- the lot before that

-- nobody has a ticket of the lot, and the lots are of their plans
pub record Unserved (n : ℕ) (w : World) : Type 0 where
  pub free : IsUnserved n w.clear.lots
  pub planned : ArePlanned w.clear.clear.log.records w.clear.lots
  pub tied : AreTied w.clear.clear.lots w.clear.lots

-- where nobody has a ticket, those who wait are the plan
all_wait : (plan : List Planned) (l : LotState) → IsOfPlan plan l → l.tickets ≡ [] → l.turns ≡ plan
all_wait plan l is none = is.turns ∙ ap (waiting plan) none ∙ waiting-none plan

-- the plan of such a lot, with no ticket
record Begins (n : ℕ) (w : World) : Type 0 where
  issue : ℕ
  plan : List Planned
  of : HasPlan n w issue plan
  has : Has plan n w.clear.lots []

begins : (n : ℕ) (w : World) → Unserved n w → Ongoing n w.clear.lots → Begins n w
begins n w before (lot, at) =
    let free = before.free lot at.found at.going in
    let one = before.planned n lot at.found at.going in
    let tied = before.tied.each n lot at.found at.going in
    let same : tied.twin.plan ≡ one.plan = sym (all_wait tied.twin.plan lot tied.is free.0) ∙ all_wait one.plan lot one.is free.0 in
    record {
      issue = lot.issue;
      plan = one.plan;
      of = record { lot = lot; found = at.found; going = at.going; issue_is = refl; twin = tied.twin; twin_is = tied.found; plan_is = same; of = one.of };
      has = record { lot = lot; found = at.found; of = one.is; tickets_are = free.0; unsealed = free.1 };
    }

-- ---- the tickets among the outcomes

drawn_of_draws : (ts : List Ticket) (last : List Outcome) → drawn_in last ≡ [] → drawn_in (draws ts ++ last) ≡ ts
drawn_of_draws [] last none = none
drawn_of_draws (t ∷ ts) last none = ap (λ (us : List Ticket). t ∷ us) (drawn_of_draws ts last none)

any_of_draws : (test : Outcome → Bool) → ((t : Ticket) → test (outcomes.Drawn t) ≡ false) → (ts : List Ticket) (last : List Outcome) → list_any test (draws ts ++ last) ≡ list_any test last
any_of_draws test none [] last = refl
any_of_draws test none (t ∷ ts) last = rw (none t) (any_of_draws test none ts last)

-- what comes after the tickets: no ticket; a lot that was closed had not ended; and one that was closed and not sealed had a ticket
-- for each member of its plan
record Ends (n : ℕ) (lots : List LotState) (last : List Outcome) : Type 0 where
  none : drawn_in last ≡ []
  going : list_any is_close last ≡ true → Ongoing n lots
  met : list_any is_close last ≡ true → list_any is_done last ≡ false → (l : LotState) → at_number lots n ≡ Some l → IsMet l

refused_ends : (n : ℕ) (lots : List LotState) (r : Refusal) → Ends n lots (outcomes.Refused r ∷ [])
refused_ends n lots r = record { none = refl; going = λ closed. cc; met = λ closed unsealed l found. cc }

close_ends : (n : ℕ) (outcome : Outcome) (old new : World) → Comes (event.LotClose n) outcome old new → Ends n old.clear.lots (outcome ∷ [])
close_ends n outcome old new comes = by (closes_by n outcome old new comes)
  where
    by : OrRefused (Closes n) (shown_of old) outcome (shown_of new) → Ends n old.clear.lots (outcome ∷ [])
    by (inl refuses) = rw (refuses.is) (refused_ends n old.clear.lots refuses.refusal)
    by (inr (done, is, close)) =
        rw is (record {
          none = refl;
          going = λ closed. (close.lot, close.at);
          met = λ closed unsealed l found. subst IsMet (same_Some close.lot l (sym close.at.found ∙ found)) close.met;
        })

closed_ends : (n : ℕ) (last : List Outcome) (old new : World) → IsClosed n last old new → Ends n old.clear.lots last
closed_ends n last old new h = rw (h.1) (close_ends n h.0 old new h.2.comes)

-- a lot was sealed that had not ended
sealed_going : (n : ℕ) (old new : World) → Comes (event.Seal n) outcomes.Done old new → Ongoing n old.clear.lots
sealed_going n old new comes = by (seals_by n outcomes.Done old new comes)
  where
    by : OrRefused (Seals n) (shown_of old) outcomes.Done (shown_of new) → Ongoing n old.clear.lots
    by (inl refuses) = absurd (cc (refuses.is))
    by (inr (lot, at, is)) = (lot, at)

-- so it is where the lot ends, be it sealed before or not
ended_ends : (n : ℕ) (sealed : Bool) (last : List Outcome) (old new : World) → IsEnded n sealed last old new → Ends n old.clear.lots last
ended_ends n false last old new h = closed_ends n last old new h
ended_ends n true last old new (inl h) = rw (h.1, h.2.1) (refused_ends n old.clear.lots h.2.0)
ended_ends n true last old new (inr h) =
    let rest = closed_ends n h.0 h.1 new h.4 in
    rw (h.2) (record { none = rest.none; going = λ closed. sealed_going n old h.1 h.3.comes; met = λ closed unsealed l found. cc })

-- ---- all of it

of_plan : (n : ℕ) (old : World) (lots : List LotState) (ts : List Ticket) (last : List Outcome) (lot : Begins n old) → Has lot.plan n lots ts → Ends n lots last
    → AreOfOnePlan n old (draws ts ++ last)
of_plan n old lots ts last lot has ends =
    let drawn = drawn_of_draws ts last ends.none in
    record {
      issue = lot.issue;
      plan = lot.plan;
      of = lot.of;
      is = has.of.is;
      served = subst (λ (us : List Ticket). IsServed lot.plan us true) (has.tickets_are ∙ sym drawn) has.of.served;
      whole = λ closed unsealed.
          let met = ends.met (sym (any_of_draws is_close (λ t. refl) ts last) ∙ closed) (sym (any_of_draws is_done (λ t. refl) ts last) ∙ unsealed) has.lot has.found in
          let served = subst (λ (b : Bool). IsServed lot.plan has.lot.tickets b) has.unsealed (met_served lot.plan has.lot has.of met) in
          subst (λ (us : List Ticket). IsServed lot.plan us false) (has.tickets_are ∙ sym drawn) served;
    }

-- some tickets were drawn, or the lot was closed with none, or neither
of_lot : (n : ℕ) (ts : List Ticket) (last : List Outcome) (old mid : World) → Run (reserves n ts) (draws ts) old mid → Unserved n old → Ends n mid.clear.lots last
    → AreOfLot n old (draws ts ++ last)
of_lot n [] last old mid run before ends = by (list_any is_close last) refl
  where
    here : Ends n old.clear.lots last
    here = subst (λ (w : World). Ends n w.clear.lots last) run ends

    by : (closed : Bool) → list_any is_close last ≡ closed → AreOfLot n old last
    by false is = inl (ends.none, is)
    by true is = let lot = begins n old before (here.going is) in inr (of_plan n old old.clear.lots [] last lot lot.has here)
of_lot n (t ∷ ts) last old mid run before ends =
    let lot = begins n old before (drawn_going n t ts old mid run) in
    inr (of_plan n old mid.clear.lots (t ∷ ts) last lot (has_all lot.plan n (t ∷ ts) [] old mid run lot.has) ends)

-- the tickets are entered, and the lot ends
pub entered_of_lot : (n : ℕ) (ts : List Ticket) (sealed : Bool) (first last told : List Outcome) (old mid new : World) → told ≡ first ++ last → AreEntered n ts first old mid
    → Unserved n old → IsEnded n sealed last mid new → AreOfLot n old told
entered_of_lot n ts sealed first last told old mid new all entered before ended =
    let both : told ≡ draws ts ++ last = all ∙ ap (λ (os : List Outcome). os ++ last) entered.told_is in
    subst (AreOfLot n old) (sym both) (of_lot n ts last old mid entered.drawn before (ended_ends n sealed last mid new ended))

-- or one of them is not entered
pub cut_of_lot : (n : ℕ) (ts : List Ticket) (r : Refusal) (first told : List Outcome) (old new : World) → told ≡ first ++ outcomes.Refused r ∷ [] → AreCutOff n ts r first old new
    → Unserved n old → AreOfLot n old told
cut_of_lot n ts r first told old new all cut before =
    let both : told ≡ draws cut.first ++ outcomes.Refused r ∷ [] = all ∙ ap (λ (os : List Outcome). os ++ outcomes.Refused r ∷ []) cut.entered.told_is in
    subst (AreOfLot n old) (sym both)
    (of_lot n cut.first (outcomes.Refused r ∷ []) old cut.between cut.entered.drawn before (refused_ends n cut.between.clear.lots r))

-- a lot that was busy is unserved
pub busy_unserved : (n : ℕ) (f mid : FloorState) (b : BusyLot) → busy_at f.busy n ≡ Some b → AreBusy f.system.clear f.busy → mid.system ≡ f.system
    → IsUnserved n mid.system.clear.lots
busy_unserved n f mid b found are same l here going =
    let is = find-All (IsBusy f.system.clear) (λ (c : BusyLot). c.lot == n) f.busy b are.each found in
    let fed = is.fed l (ap (λ (m : ℕ). at_number f.system.clear.lots m) (busy_number f.busy n b found) ∙ ap (λ (w : World). at_number w.clear.lots n) (sym same) ∙ here) going in
    (fed.tickets, fed.unsealed)
